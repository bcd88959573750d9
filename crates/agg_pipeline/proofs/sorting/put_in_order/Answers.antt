use Rattle.std.proofs.Common.{◌∙◌, ap, List}
use Rattle.indexmap.proofs.MapLemmas.{OnOk-map}
use Rattle.row_sort.specs.Order.{row_order}
use Rattle.row_sort.specs.Sorting.{sorted}
use Rattle.row_sort.specs.declared.order.Direction.{Direction}
use Rattle.agg_pipeline.proofs.sorting.put_in_order.Goals as goal

pub returns : goal.returns
returns c =
    OnOk-map c.order_rows.result _ _
    (λ in_order. in_order ∙ ap (λ (by : List Direction). sorted (row_order by) c.args.ranked.now.items) (c.as_slice.ensures ∙ c.in_ok-by.ensures)) c.order_rows.ensures.ok
