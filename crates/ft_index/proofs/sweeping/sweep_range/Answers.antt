use Rattle.ft_index.specs.Lists.{rows_of}
use Rattle.ft_index.specs.Markers.{range_list}
use Rattle.ft_index.proofs.TakingLaws.{lists-none}
use Rattle.ft_index.proofs.ThinLaws.{slot-same}
use Rattle.ft_index.proofs.sweeping.sweep_range.Goals as goal

pub returns-in_default : goal.returns-in_default
returns-in_default g c = record {
  thin = λ field. slot-same (g.L.Live.is c.args.live.now) (rows_of c.args.ranges.now field);
  takes = lists-none c.args.markers.now (range_list c.args.ranges.now);
}
