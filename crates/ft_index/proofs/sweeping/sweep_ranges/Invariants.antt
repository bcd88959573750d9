use Rattle.ft_index.specs.Markers.{TakesLists, range_list}
use Rattle.ft_index.specs.Thinned.{RangesThin}
use Rattle.ft_index.proofs.sweeping.sweep_ranges.Given as goal

abbrev pub invariant-loop-name : goal.invariant-loop-name
invariant-loop-name g l = record {
  thin : RangesThin (g.L.Live.is l.live) l.fn.ranges l.ranges;
  takes : TakesLists l.fn.markers l.markers (range_list l.fn.ranges) (range_list l.ranges);
}
