use Rattle.std.proofs.Common.{drop, Some}
use Rattle.ft_index.specs.Collecting.{LowsLiveBut}
use Rattle.ft_index.specs.Lists.{list_from}
use Rattle.ft_index.specs.Markers.{TakesLists}
use Rattle.ft_index.specs.Thinned.{RowsThin}
use Rattle.ft_index.proofs.collecting_ranges.collect_rows.Given as goal

-- the ranges that are left are the only ones with a dead entry
abbrev pub invariant-loop-low : goal.invariant-loop-low
invariant-loop-low g l = record {
  thin : RowsThin (g.L.Live.is l.live) l.fn.rows l.rows;
  but : LowsLiveBut (g.L.Live.is l.live) (drop l.low-index l.low-items) l.rows;
  takes : TakesLists l.fn.markers l.markers (list_from (Some l.fn.rows)) (list_from (Some l.rows));
}
