use Rattle.std.proofs.Common.{Option, subst}
use Rattle.numeric_ranges.specs.Ranges.{Rows}
use Rattle.ft_index.specs.Markers.{AllBefore, slot_marker}
use Rattle.ft_index.proofs.sweeping.sweep_slot.Goals as goal

pub collect_row-requires : goal.collect_row-requires
collect_row-requires g c = record {
  before = subst (λ (slot : Option Rows). AllBefore c.args.markers.now (slot_marker slot)) c.in-Some.is c.requires.before;
}
