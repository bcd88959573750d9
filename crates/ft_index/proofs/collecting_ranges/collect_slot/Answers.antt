use Rattle.std.proofs.Common.{Option, subst}
use Rattle.numeric_ranges.specs.Ranges.{Rows}
use Rattle.ft_index.specs.Markers.{AllBefore, slot_marker}
use Rattle.ft_index.proofs.collecting_ranges.collect_slot.Goals as goal

pub collect_rows-requires : goal.collect_rows-requires
collect_rows-requires g c = record {
  before = subst (λ (slot : Option Rows). AllBefore c.args.markers.now (slot_marker slot)) c.in-Some.is c.requires.before;
}
