use Rattle.std.proofs.Common.{◌≡◌, ◌∙◌, ◌++◌, ◌∷◌, [], ◌<◌, ◌≤◌, ◌-◌, ◌+◌, ℕ, true, false, List, ap, sym, subst, arith, length, take}
use Rattle.std.proofs.lemmas.Grind.{common_steps}
use Rattle.ft_base.specs.Rows.{Rows, Below}
use Rattle.id_rows.specs.declared.row.Row.{Row}
use Rattle.id_rows.specs.declared.row.Row.TheVariants.{Full}
use Rattle.id_rows.specs.IdRows.{full_rows, row_at_place, is_empty_row, AreIdRows}
use Rattle.id_rows.proofs.IdRowsLaws.{full_most, full_push, full_take, pushed}
use Rattle.id_rows.proofs.rows.IdRows.push.Goals as goal

pub overflow_add-self : goal.overflow_add-self
overflow_add-self g c =
    let rows : length c.deref.result.now ≡ length c.self.inside.rows.items = ap length c.deref.ensures.value in
    omega (arith, rows, c.deref.type_inv.1, c.self.invariant.counted, full_most g.T.HasId.id_of c.self.inside.rows.items)

-- the new row comes behind them
rows_are : (g : _) (c : goal.After-self-1 g) → c.push.new.self.items ≡ take c.full_end-end.result c.self.inside.rows.items ++ Full c.args.row ∷ []
rows_are g c = c.in_ok-push.ensures.items ∙ ap (λ (rs : List (Row _)). rs ++ Full c.args.row ∷ []) c.truncate.ensures.items

pub invariant_of-self-2 : goal.invariant_of-self-2
invariant_of-self-2 g c =
    let rows = c.self.inside.rows.items in
    let end = c.full_end-end.result in
    subst (AreIdRows g.T.HasId.id_of (c.self.inside.full + 1)) (sym (rows_are g c))
    (pushed g.T.HasId.id_of c.self.inside.full end rows c.args.row c.self.invariant
    (subst (Below (g.T.HasId.id_of c.args.row)) (sym c.self.view_is) c.requires)
    (subst (λ (rs : List (Row _)). end ≤ length rs) c.deref.ensures.value c.full_end-end.ensures.within)
    (subst (λ (rs : List (Row _)). 0 < end → is_empty_row (row_at_place rs (end - 1)) ≡ false) c.deref.ensures.value c.full_end-end.ensures.full)
    (subst (λ (rs : List (Row _)). (k : ℕ) → end ≤ k → k < length rs → is_empty_row (row_at_place rs k) ≡ true) c.deref.ensures.value c.full_end-end.ensures.empty))

pub returns-clause-ok : goal.returns-clause-ok
returns-clause-ok g c =
    let rows = c.self.inside.rows.items in
    let end = c.full_end-end.result in
    ap (full_rows g.T.HasId.id_of) (rows_are g c)
    ∙ (full_push g.T.HasId.id_of (take end rows) c.args.row
    ∙ ap (λ (rs : Rows _). rs ++ ((g.T.HasId.id_of c.args.row), c.args.row) ∷ [])
    (full_take g.T.HasId.id_of end rows (subst (λ (rs : List (Row _)). (k : ℕ) → end ≤ k → k < length rs → is_empty_row (row_at_place rs k) ≡ true) c.deref.ensures.value c.full_end-end.ensures.empty) ∙ c.self.view_is))

pub invariant_of-self : goal.invariant_of-self
invariant_of-self g c = grind (arith, common_steps)

pub returns-in_err-push-clause-err : goal.returns-in_err-push-clause-err
returns-in_err-push-clause-err g c = grind (arith, common_steps)
