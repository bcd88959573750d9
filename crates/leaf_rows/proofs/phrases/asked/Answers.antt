use Rattle.std.proofs.Common.{List, ℕ, take, sym, subst}
use Rattle.phrase_match.specs.Places.{AllRise, AllEqualOrApart}
use Rattle.phrase_match.proofs.TextLaws.{all_places_rise, all_places_apart}
use Rattle.leaf_rows.proofs.phrases.asked.Goals as goal

pub within-requires-clause-rising : goal.within-requires-clause-rising
within-requires-clause-rising c =
    subst (λ (lists : List (List ℕ)). AllRise lists) (sym c.loop-word.invariant) (all_places_rise c.args.document.now
    (take c.loop-word.word-index c.args.phrase.now))

pub within-requires-clause-apart : goal.within-requires-clause-apart
within-requires-clause-apart c =
    subst (λ (lists : List (List ℕ)). AllEqualOrApart lists) (sym c.loop-word.invariant) (all_places_apart c.args.document.now
    (take c.loop-word.word-index c.args.phrase.now))
