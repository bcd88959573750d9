use Rattle.ft_index.specs.Lists.{rows_of}
use Rattle.ft_index.specs.Markers.{range_list}
use Rattle.ft_index.proofs.TakingLaws.{lists-none}
use Rattle.ft_index.proofs.ThinLaws.{slot-same}
use Rattle.ft_index.proofs.sweeping.sweep_field.Goals as goal

pub returns-then-ranges-number-clause-thin : goal.returns-then-ranges-number-clause-thin
returns-then-ranges-number-clause-thin g c = λ field. slot-same (g.L.Live.is c.args.live.now) (rows_of c.args.ranges.now field)

pub returns-then-ranges-number-clause-takes : goal.returns-then-ranges-number-clause-takes
returns-then-ranges-number-clause-takes g c = lists-none c.args.markers.now (range_list c.args.ranges.now)
