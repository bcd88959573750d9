use Rattle.std.proofs.lemmas.Grind.{common_steps}
-- The row in which the value lies takes the entry, or is split in two with it.
use Rattle.std.proofs.Common.{◌≡◌, ◌++◌, ◌∷◌, [], ◌+◌, ◌-◌, ℕ, List, suc, set, length, true, false, refl, IfSome, IfNone, Option, ap, subst, sym, ◌∙◌, arith, rules}
use Rattle.std.proofs.lemmas.List.{length-set}
use Rattle.std.proofs.lemmas.List.Edits.{length-insert}
use Rattle.std.specs.List.{insert}
use mir.Syntax.{w64}
use mir.Val.{SFits}
use Rattle.numeric_ranges.specs.declared.row.Row.{Row}
use Rattle.numeric_ranges.specs.declared.spread.Spread.{Spread}
use Rattle.numeric_ranges.specs.Values.{splits}
use Rattle.numeric_ranges.specs.Rows.{Knows}
use Rattle.numeric_ranges.proofs.AddLaws.{AddsWell, reached_at, row_same, above_at, ids_at, add_plain, add_split}
use Rattle.numeric_ranges.proofs.ranges.add_entry.Goals as goal

pub append-requires : goal.append-requires
append-requires c =
    let items = c.args.rows.now.items in
    let fits : SFits w64 c.args.hit.now.value = search rules in
    let place = reached_at items c.as_slice.result.now c.args.hit.now.value c.reach-at.result c.as_slice.ensures.value c.reach-at.ensures.reach c.reach-at.ensures.within fits c.requires.held in
    above_at items (c.reach-at.result - 1) c.index_mut-row.result.now c.args.id c.requires.above place.1 c.index_mut-row.ensures.value

pub halves_of-requires-clause-below : goal.halves_of-requires-clause-below
halves_of-requires-clause-below c =
    let items = c.args.rows.now.items in
    let fits : SFits w64 c.args.hit.now.value = search rules in
    let place = reached_at items c.as_slice.result.now c.args.hit.now.value c.reach-at.result c.as_slice.ensures.value c.reach-at.ensures.reach c.reach-at.ensures.within fits c.requires.held in
    above_at items (c.reach-at.result - 1) c.index-in-None.result.now c.args.id c.requires.above place.1 c.index-in-None.ensures

pub halves_of-requires-clause-rises : goal.halves_of-requires-clause-rises
halves_of-requires-clause-rises c =
    let items = c.args.rows.now.items in
    let fits : SFits w64 c.args.hit.now.value = search rules in
    let place = reached_at items c.as_slice.result.now c.args.hit.now.value c.reach-at.result c.as_slice.ensures.value c.reach-at.ensures.reach c.reach-at.ensures.within fits c.requires.held in
    ids_at items (c.reach-at.result - 1) c.index-in-None.result.now c.requires.held place.1 c.index-in-None.ensures

pub returns-in_ok-append-in-Some : goal.returns-in_ok-append-in-Some
returns-in_ok-append-in-Some c =
    let items = c.args.rows.now.items in
    let id = c.args.id in
    let hit = c.args.hit.now in
    let at = c.reach-at.result - 1 in
    let fits : SFits w64 c.args.hit.now.value = search rules in
    let place = reached_at items c.as_slice.result.now c.args.hit.now.value c.reach-at.result c.as_slice.ensures.value c.reach-at.ensures.reach c.reach-at.ensures.within fits c.requires.held in
    let row = c.index_mut-row.result.now in
    let same = row_same items at c.index.result.now row place.1 c.index.ensures c.index_mut-row.ensures.value in
    let whole = subst (λ (o : Option Spread). IfSome o (λ _. splits (c.index.result.now.list.entries ++ (id, hit) ∷ []) ≡ false)) c.in-Some.is c.in_ok-spread.ensures.whole in
    let knows = subst (λ (o : Option Spread). IfSome o (λ s. Knows s (c.index.result.now.list.entries ++ (id, hit) ∷ []))) c.in-Some.is c.in_ok-spread.ensures.some in
    let new : Row = record { low = row.low; list = c.append.new.self; spread = c.in-Some.spread } in
    let well = add_plain items at id hit c.args.markers.now row new c.requires.held place.0 place.1 c.index_mut-row.ensures.value
    (subst (λ (r : Row). splits (r.list.entries ++ (id, hit) ∷ []) ≡ false) same whole)
    (above_at items at row id c.requires.above place.1 c.index_mut-row.ensures.value) refl c.in_ok-append-in-Some.ensures.ok
    (subst (λ (r : Row). Knows c.in-Some.spread (r.list.entries ++ (id, hit) ∷ [])) same knows) in
    record {
      ok = well.ok;
      err = search rules;
      held = well.held;
      more = well.more;
      parts = well.parts;
      taken = search rules;
      event = search rules;
      rises = search rules;
      twice = search rules;
    }

pub returns-in_ok-put_halves-in-None : goal.returns-in_ok-put_halves-in-None
returns-in_ok-put_halves-in-None c =
    let items = c.args.rows.now.items in
    let id = c.args.id in
    let hit = c.args.hit.now in
    let at = c.reach-at.result - 1 in
    let fits : SFits w64 c.args.hit.now.value = search rules in
    let place = reached_at items c.as_slice.result.now c.args.hit.now.value c.reach-at.result c.as_slice.ensures.value c.reach-at.ensures.reach c.reach-at.ensures.within fits c.requires.held in
    let row = c.index-in-None.result.now in
    let same = row_same items at c.index.result.now row place.1 c.index.ensures c.index-in-None.ensures in
    let parted = subst (λ (o : Option Spread). IfNone o (splits (c.index.result.now.list.entries ++ (id, hit) ∷ []) ≡ true)) c.in-None.is c.in_ok-spread.ensures.splits in
    let left = c.in_ok-halves-in-None.halves.0 in
    let right = c.in_ok-halves-in-None.halves.1 in
    let split = add_split items at id hit c.args.markers.now row left right c.requires.held place.0 place.1 c.index-in-None.ensures
    (subst (λ (r : Row). splits (r.list.entries ++ (id, hit) ∷ []) ≡ true) same parted)
    (above_at items at row id c.requires.above place.1 c.index-in-None.ensures) c.in_ok-halves-in-None.ensures.ok in
    let one : at + 1 ≡ suc at = omega arith in
    let new : c.put_halves.new.rows.items ≡ set (insert items (suc at) right) at left = c.in_ok-put_halves-in-None.ensures.ok ∙ ap (λ (n : ℕ). set (insert items n right) at left) one in
    let well = subst (λ (xs : List Row). AddsWell items xs id hit c.args.markers.now) (sym new) split in
    let longer = ap length new ∙ (length-set (insert items (suc at) right) at left ∙ length-insert items (suc at) right (omega (arith, place.1))) in
    record {
      ok = well.ok;
      err = search rules;
      held = well.held;
      more = well.more;
      parts = well.parts;
      taken = omega (arith, longer, c.in_ok-halves-in-None.ensures.taken);
      event = search rules;
      rises = search rules;
      twice = search rules;
    }

pub grown-requires : goal.grown-requires
grown-requires c = grind (arith, common_steps)

pub returns-in_err-append-in-Some-clause-err : goal.returns-in_err-append-in-Some-clause-err
returns-in_err-append-in-Some-clause-err c = grind (arith, common_steps)

pub returns-in_err-append-in-Some-clause-held : goal.returns-in_err-append-in-Some-clause-held
returns-in_err-append-in-Some-clause-held c = grind (arith, common_steps)

pub halves_of-requires-clause-mixed : goal.halves_of-requires-clause-mixed
halves_of-requires-clause-mixed c = grind (arith, common_steps)

pub put_halves-requires : goal.put_halves-requires
put_halves-requires c = grind (arith, common_steps)
