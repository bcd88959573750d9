use Rattle.std.proofs.Common.{is_ge, ap, sym, ◌∙◌}
use Rattle.std.proofs.lemmas.Bool.{OnTrue_from}
use Rattle.row_sort.specs.Order.{row_order, values_order}
use Rattle.row_sort.proofs.HeldLaws.{held_away}
use Rattle.row_sort.proofs.first_rows.is_behind.Goals as goal

pub returns : goal.returns
returns g c = OnTrue_from c.is_ge.result _ (λ e row same.
    let by = c.args.by.now in
    let last = c.index-rows-most.result in
    held_away by c.args.most c.args.rows.now row last c.requires c.index-rows-most.is
    (ap (λ values. is_ge (values_order by values last.values)) same
    ∙ (ap (λ row. is_ge (row_order by (record { values = c.args.values.now; item = last.item }) row)) c.index-rows-most.is
    ∙ (ap (λ values. is_ge (values_order by c.args.values.now values)) (sym c.as_slice.ensures)
    ∙ (ap is_ge (sym c.compare_values.ensures) ∙ (sym c.is_ge.ensures ∙ e))))))
