use Rattle.std.proofs.Common.{rules, of_calls}
use Rattle.std.proofs.lemmas.Fn.{always_returns_same}
use Rattle.std.proofs.lemmas.Result.{on_ok_weaker}
use Rattle.row_sort.specs.Order.{row_order}
use Rattle.row_sort.proofs.OrderLaws.{row_weak}
use Rattle.row_sort.proofs.SortingLaws.{sorted_only}
use Rattle.row_sort.proofs.rows.order_rows.Goals as goal

pub returns-clause-ok : goal.returns-clause-ok
returns-clause-ok g c =
    let by = c.args.by.now in
    let answers = always_returns_same _ _ _ (λ a r f k. search (rules, of_calls)) in
    on_ok_weaker c.sort_by.result
    (λ up. sorted_only (row_order by) (row_weak by) _ _ (up _ (row_weak by) answers)
    (c.sort_by.ensures.stable _ (row_weak by) answers))
    c.sort_by.ensures.sorted
