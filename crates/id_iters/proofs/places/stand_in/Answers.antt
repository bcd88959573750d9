use Rattle.std.proofs.Common.{◌≡◌, ◌&&◌, map, List, ℕ, Bool, true, refl, sym, ap, ◌∙◌, subst}
use Rattle.phrase_match.specs.Phrase.{within}
use Rattle.phrase_match.specs.Places.{AllEqualOrApart, AllRise}
use Rattle.phrase_match.specs.Turns.{in_turn}
use Rattle.id_iters.specs.Entries.{looks_in, places_in}
use Rattle.id_iters.proofs.CodeLaws.{all_places_apart, all_places_rise}
use Rattle.id_iters.proofs.PhraseLaws.{turns_map}
use Rattle.id_iters.proofs.places.stand_in.Goals as goal

pub within_in_turn-requires-clause-rising : goal.within_in_turn-requires-clause-rising
within_in_turn-requires-clause-rising c =
    subst (λ (l : List (List ℕ)). AllRise l) (sym c.in_ok-places.ensures) (all_places_rise c.args.field c.args.words.now c.requires.rising)

pub within_in_turn-requires-clause-apart : goal.within_in_turn-requires-clause-apart
within_in_turn-requires-clause-apart c =
    subst (λ (l : List (List ℕ)). AllEqualOrApart l) (sym c.in_ok-places.ensures) (all_places_apart c.args.field c.args.words.now c.requires.apart)

pub returns : goal.returns
returns c =
    c.within_in_turn.ensures
    ∙ ap (λ (l : List (List ℕ)). within (in_turn l c.args.order.now) c.args.slop c.args.in_order) c.in_ok-places.ensures
    ∙ ap (λ (l : List (List ℕ)). within l c.args.slop c.args.in_order) (turns_map (places_in c.args.field) refl c.args.words.now c.args.order.now)
    ∙ ap (λ b. b && within (map (places_in c.args.field) (in_turn c.args.words.now c.args.order.now)) c.args.slop c.args.in_order)
    (sym (sym c.is_looked_in.ensures ∙ c.if-not-is_looked_in.false))
