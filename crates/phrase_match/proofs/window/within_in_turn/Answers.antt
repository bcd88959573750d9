use Rattle.std.proofs.Common.{List, ℕ, sym, ap, ◌∙◌, subst}
use Rattle.phrase_match.specs.Phrase.{within}
use Rattle.phrase_match.specs.Places.{AllEqualOrApart, AllRise}
use Rattle.phrase_match.specs.Turns.{in_turn}
use Rattle.phrase_match.proofs.TurnLaws.{too_few, turns_apart, turns_rise}
use Rattle.phrase_match.proofs.window.within_in_turn.Goals as goal

pub returns-then-are_fewer : goal.returns-then-are_fewer
returns-then-are_fewer c =
    sym (ap (λ (ls : List (List ℕ)). within (in_turn ls c.args.order.now) c.args.slop c.args.in_order) (sym c.as_slice.ensures)
    ∙ too_few c.args.slop c.args.in_order c.as_slice.result.now c.args.order.now (c.are_fewer.ensures c.if-are_fewer.true))

pub search-requires-clause-rising : goal.search-requires-clause-rising
search-requires-clause-rising c =
    subst (λ (l : List (List ℕ)). AllRise l) (sym (c.of_places.ensures ∙ ap (λ (ls : List (List ℕ)). in_turn ls c.args.order.now) c.as_slice-2.ensures))
    (turns_rise c.args.places.now c.args.order.now c.requires.rising)

pub search-requires-clause-apart : goal.search-requires-clause-apart
search-requires-clause-apart c =
    subst (λ (l : List (List ℕ)). AllEqualOrApart l) (sym (c.of_places.ensures ∙ ap (λ (ls : List (List ℕ)). in_turn ls c.args.order.now) c.as_slice-2.ensures))
    (turns_apart c.args.places.now c.args.order.now c.requires.apart)
