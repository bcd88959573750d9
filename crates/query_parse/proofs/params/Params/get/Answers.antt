use Rattle.std.proofs.Common.{◌≡◌, ◌<◌, ◌∙◌, Some, length, sym, ap, arith}
use Rattle.std.specs.Option.{option_copied}
use Rattle.query_parse.specs.Places.{place_from}
use Rattle.query_parse.proofs.PlaceLemmas.{no-place, place-value, place-within}
use Rattle.query_parse.proofs.params.Params.get.Goals.{In-Some}
use Rattle.query_parse.proofs.params.Params.get.Goals as goal

-- the place that is found
found : (c : In-Some) → place_from 0 c.self.inside.list.now c.args.name.now ≡ Some c.in-Some.place.now
found c = sym (c.self.invariant c.args.name.now) ∙ (sym c.get.ensures.value ∙ ap option_copied c.in-Some.is)

within : (c : In-Some) → c.in-Some.place.now < length c.self.inside.list.now
within c = place-within c.self.inside.list.now c.args.name.now c.in-Some.place.now (found c)

pub offset_bounds-self-inside-place : goal.offset_bounds-self-inside-place
offset_bounds-self-inside-place c =
    let below = within (goal.at.offset_bounds-self-inside-place c).In-Some in
    omega arith

pub bounds-self-inside-place : goal.bounds-self-inside-place
bounds-self-inside-place c = within (goal.at.bounds-self-inside-place c).In-Some

pub returns-in-Some : goal.returns-in-Some
returns-in-Some c =
    rw (c.as_slice.ensures, ← c.self.view_is)
    (place-value c.self.inside.list.now c.args.name.now c.in-Some.place.now c.index-self-place.result (found (goal.at.returns-in-Some c).In-Some))

pub returns-in-None : goal.returns-in-None
returns-in-None c = rw (← c.self.view_is) (no-place c.self.inside.list.now c.args.name.now 0 (sym (c.self.invariant c.args.name.now) ∙ (sym c.get.ensures.value ∙ ap option_copied c.in-None.is)))
