use Rattle.std.proofs.Common.{List, ℕ, take, sym, ap, ◌∙◌, subst}
use Rattle.ft_meaning.specs.Holds.{places_of}
use Rattle.phrase_match.specs.Places.{AllRise, AllEqualOrApart}
use Rattle.query_match.proofs.PlacesLemmas.{all_places_rise, all_places_apart, within-none}
use Rattle.query_match.proofs.words.has_phrase.Goals as goal

pub within-requires-clause-rising : goal.within-requires-clause-rising
within-requires-clause-rising c =
    subst (λ (lists : List (List ℕ)). AllRise lists) (sym c.words.invariant)
    (all_places_rise c.args.found.now (take c.words.word-index c.args.words.now) c.requires)

pub within-requires-clause-apart : goal.within-requires-clause-apart
within-requires-clause-apart c =
    subst (λ (lists : List (List ℕ)). AllEqualOrApart lists) (sym c.words.invariant)
    (all_places_apart c.args.found.now (take c.words.word-index c.args.words.now) c.requires)

pub returns-then-len-eq0 : goal.returns-then-len-eq0
returns-then-len-eq0 c =
    within-none c.args.found.now c.args.words.now c.words.word-index c.word-item.result c.in_ok-places.places c.args.slop c.args.in_order c.words-test.true
    c.word-item.is (c.in_ok-places.ensures ∙ ap (places_of c.args.found.now) c.as_slice.ensures) (sym c.len.ensures ∙ c.if-len-eq0.true)
