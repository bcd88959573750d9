use Rattle.std.proofs.Common.{◌≡◌, ◌∙◌, ap, subst, IfOk, List}
use Rattle.ft_base.specs.declared.row.Row.{Row}
use Rattle.row_sort.specs.Order.{row_order}
use Rattle.row_sort.specs.Sorting.{sorted}
use Rattle.row_sort.specs.declared.rows.Ranked.{Ranked}
use Rattle.agg_pipeline.specs.Ranking.{items_of}
use Rattle.agg_pipeline.specs.Steps.{directions}
use Rattle.agg_pipeline.proofs.RankingLaws.{items_sorted}
use Rattle.agg_pipeline.proofs.sorting.sort_all.Goals as goal

pub returns : goal.returns
returns c =
    subst (λ (want : List Row). IfOk c.items_of.result (λ made. made.items ≡ want))
    (ap items_of (c.in_ok-put_in_order.ensures ∙ ap (λ (rows : List (Ranked Row)). sorted (row_order (directions c.args.keys.now)) rows) c.in_ok-ranked.ensures)
    ∙ items_sorted c.args.def.now c.args.keys.now c.args.rows.items) c.items_of.ensures
