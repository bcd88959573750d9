use Rattle.std.proofs.Common.{◌≡◌, ◌≢◌, ◌∙◌, ◌<◌, List, ap, sym, subst, length, None, nat_eq, slice_set}
use Rattle.std.specs.Map.{lookup}
use Rattle.id_rows.specs.declared.row.Row.{Row}
use Rattle.id_rows.specs.IdRows.{place_id, thing_of, full_rows, Rise, IsPlace}
use Rattle.id_rows.proofs.PlaceLaws.{read_is, found_at, missing, at_from, not_at_from}
use Rattle.id_rows.proofs.IdRowsLaws.{remove_none, full_empty, rise_empty}
use Rattle.id_rows.proofs.rows.take_at.Goals as goal

none : (g : _) (c : goal.Then-not-is_at g) → lookup (nat_eq c.args.id) (full_rows g.T.HasId.id_of c.args.rows.now.items) ≡ None
none g c =
    let rows = c.args.rows.now.items in
    let at = c.place_of-at.result in
    missing g.T.HasId.id_of rows c.args.id at c.requires
    (subst (λ (rs : List (Row _)). IsPlace g.T.HasId.id_of c.args.id rs at) c.deref.ensures.value c.place_of-at.ensures)
    (subst (λ (rs : List (Row _)). at < length rs → place_id g.T.HasId.id_of rs at ≢ c.args.id) c.deref-2.ensures.value (not_at_from g.T.HasId.id_of c.deref-2.result.now c.args.id at (sym c.is_at.ensures ∙ c.if-not-is_at.true)))

pub returns-then-not-is_at-clause-was : goal.returns-then-not-is_at-clause-was
returns-then-not-is_at-clause-was g c = sym (none g c)

pub returns-then-not-is_at-clause-gone : goal.returns-then-not-is_at-clause-gone
returns-then-not-is_at-clause-gone g c = sym (remove_none g.T.HasId.id_of c.args.id (full_rows g.T.HasId.id_of c.args.rows.now.items) (none g c))

here : (g : _) (c : goal.After-into_thing g) → (c.place_of-at.result < length c.args.rows.now.items) × (place_id g.T.HasId.id_of c.args.rows.now.items c.place_of-at.result ≡ c.args.id)
here g c =
    let at = c.place_of-at.result in
    subst (λ (rs : List (Row _)). (at < length rs) × (place_id g.T.HasId.id_of rs at ≡ c.args.id)) c.deref-2.ensures.value (at_from g.T.HasId.id_of c.deref-2.result.now c.args.id at (sym c.is_at.ensures ∙ c.if-not-is_at.false))

pub returns-clause-was : goal.returns-clause-was
returns-clause-was g c =
    let rows = c.args.rows.now.items in
    let at = c.place_of-at.result in
    c.into_thing.ensures
    ∙ (ap thing_of (c.replace.ensures.value ∙ sym (read_is g.T.HasId.id_of rows at c.index_mut.result.now c.index_mut.ensures.value (here g c).0))
    ∙ sym (found_at g.T.HasId.id_of 0 rows c.args.id at c.requires (here g c).0 (here g c).1))

pub returns-clause-gone : goal.returns-clause-gone
returns-clause-gone g c =
    let rows = c.args.rows.now.items in
    let at = c.place_of-at.result in
    ap (λ row. full_rows g.T.HasId.id_of (slice_set rows at row)) c.replace.ensures.after ∙ full_empty g.T.HasId.id_of 0 rows at c.args.id c.requires (here g c).0 (here g c).1

pub returns-clause-rises : goal.returns-clause-rises
returns-clause-rises g c =
    let rows = c.args.rows.now.items in
    let at = c.place_of-at.result in
    subst (λ row. Rise g.T.HasId.id_of 0 (slice_set rows at row)) (sym c.replace.ensures.after) (rise_empty g.T.HasId.id_of 0 rows at c.args.id c.requires (here g c).0 (here g c).1)
