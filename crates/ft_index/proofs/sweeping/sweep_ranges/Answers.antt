use Rattle.ft_index.specs.Lists.{rows_of}
use Rattle.ft_index.specs.Markers.{range_list, range_marker}
use Rattle.ft_index.proofs.TakingLaws.{before-taken, lists-again, lists-none}
use Rattle.ft_index.proofs.ThinLaws.{slot-again, slot-same}
use Rattle.ft_index.proofs.sweeping.sweep_ranges.Goals as goal

pub loop-name-init : goal.loop-name-init
loop-name-init g c = record {
  thin = λ field. slot-same (g.L.Live.is c.args.live.now) (rows_of c.args.ranges.now field);
  takes = lists-none c.args.markers.now (range_list c.args.ranges.now);
}

pub sweep_range-requires : goal.sweep_range-requires
sweep_range-requires g c = record {
  before = before-taken c.args.markers.now c.loop-name.markers (range_marker c.args.ranges.now) (range_marker c.loop-name.ranges) c.requires.before c.loop-name.invariant.takes.markers;
}

pub returns-in_err-sweep_range-clause-thin : goal.returns-in_err-sweep_range-clause-thin
returns-in_err-sweep_range-clause-thin g c = λ field.
    slot-again (g.L.Live.is c.args.live.now) (rows_of c.args.ranges.now field) (rows_of c.loop-name.ranges field) (rows_of c.sweep_range.new.ranges field)
    (c.loop-name.invariant.thin field) (c.sweep_range.ensures.thin field)

pub returns-in_err-sweep_range-clause-takes : goal.returns-in_err-sweep_range-clause-takes
returns-in_err-sweep_range-clause-takes g c =
    lists-again c.args.markers.now c.loop-name.markers c.sweep_range.new.markers (range_list c.args.ranges.now) (range_list c.loop-name.ranges) (range_list c.sweep_range.new.ranges)
    c.requires.before c.loop-name.invariant.takes c.sweep_range.ensures.takes

pub loop-name-preserved : goal.loop-name-preserved
loop-name-preserved g c = record {
  thin = λ field. slot-again (g.L.Live.is c.args.live.now) (rows_of c.args.ranges.now field) (rows_of c.loop-name.ranges field) (rows_of c.sweep_range.new.ranges field)
      (c.loop-name.invariant.thin field) (c.sweep_range.ensures.thin field);
  takes = lists-again c.args.markers.now c.loop-name.markers c.sweep_range.new.markers (range_list c.args.ranges.now) (range_list c.loop-name.ranges) (range_list c.sweep_range.new.ranges)
      c.requires.before c.loop-name.invariant.takes c.sweep_range.ensures.takes;
}
