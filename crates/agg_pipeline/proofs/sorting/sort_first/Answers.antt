use Rattle.std.proofs.Common.{◌≡◌, ◌∙◌, ap, subst, map, IfOk, List, []}
use Rattle.ft_base.specs.declared.row.Row.{Row}
use Rattle.row_sort.specs.First.{First}
use Rattle.row_sort.specs.declared.order.Direction.{Direction}
use Rattle.row_sort.specs.declared.rows.Ranked.{Ranked}
use Rattle.agg_pipeline.specs.Ranking.{items_of, offered, ranked}
use Rattle.agg_pipeline.specs.Steps.{directions}
use Rattle.agg_pipeline.proofs.RankingLaws.{items_first}
use Rattle.agg_pipeline.proofs.sorting.sort_first.Goals as goal

pub returns : goal.returns
returns c =
    let all : List (Ranked Row) = map (ranked c.args.def.now c.args.keys.now) c.args.rows.items in
    let first : c.in_ok-into_rows.field-0.items ≡ offered (directions c.args.keys.now) c.args.most [] all =
    c.in_ok-into_rows.ensures
    ∙ ap (λ (f : First Row). f.rows) c.in_ok-offer_all.ensures
    ∙ ap (λ (f : First Row). offered f.by f.most f.rows all) c.new-first.ensures
    ∙ ap (λ (by : List Direction). offered by c.args.most [] all) c.in_ok-directions.ensures in
    subst (λ (want : List Row). IfOk c.items_of.result (λ made. made.items ≡ want))
    (ap items_of first ∙ items_first c.args.def.now c.args.keys.now c.args.most c.args.rows.items) c.items_of.ensures
