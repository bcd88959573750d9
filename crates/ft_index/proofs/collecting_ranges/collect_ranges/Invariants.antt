use Rattle.std.proofs.Common.{◌<◌, ℕ}
use Rattle.ft_index.specs.Lists.{rows_of}
use Rattle.ft_index.specs.Markers.{TakesLists, range_list}
use Rattle.ft_index.specs.Thinned.{RangesThin, RowsLive}
use Rattle.ft_index.proofs.collecting_ranges.collect_ranges.Given as goal

-- the fields so far have no dead entry
abbrev pub invariant-fields : goal.invariant-fields
invariant-fields g l = record {
  thin : RangesThin (g.L.Live.is l.live) l.fn.ranges l.ranges;
  live : (field : ℕ) → field < l.number → RowsLive (g.L.Live.is l.live) (rows_of l.ranges field);
  takes : TakesLists l.fn.markers l.markers (range_list l.fn.ranges) (range_list l.ranges);
}
