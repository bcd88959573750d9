use Rattle.std.proofs.Common.{ℕ, set, slice_index_or, sym, subst, ap, inl, inr, Option}
use Rattle.numeric_ranges.specs.Ranges.{Rows}
use Rattle.ft_index.specs.Lists.{list_from, rows_of}
use Rattle.ft_index.specs.Markers.{AllBefore, TakesLists, range_list, slot_marker}
use Rattle.ft_index.specs.Thinned.{SlotThins}
use Rattle.ft_index.proofs.FieldLaws.{decided}
use Rattle.ft_index.proofs.SlotLaws.{rows-here, rows-set_here, rows-set_other}
use Rattle.ft_index.proofs.TakingLaws.{lists-field}
use Rattle.ft_index.proofs.ThinLaws.{slot-same}
use Rattle.ft_index.proofs.sweeping.sweep_at.Goals as goal

pub sweep_slot-requires : goal.sweep_slot-requires
sweep_slot-requires g c = record {
  before = subst (λ (slot : Option Rows). AllBefore c.args.markers.now (slot_marker slot)) (rows-here c.args.ranges.now c.args.number c.index-ranges-number.result c.requires.within)
      (λ low. c.requires.before (c.args.number, low));
}

pub returns-clause-thin : goal.returns-clause-thin
returns-clause-thin g c field =
    let live = g.L.Live.is c.args.live.now in
    let ranges = c.args.ranges.now in
    let slot = c.sweep_slot.new.slot in
    elim (decided field c.args.number) [
      | inl is ↦ subst (λ (n : ℕ). SlotThins live (rows_of ranges n) (rows_of (set ranges c.args.number slot) n)) (sym is)
          (subst (λ (old : Option Rows). SlotThins live old (rows_of (set ranges c.args.number slot) c.args.number)) (sym (rows-here ranges c.args.number c.index-ranges-number.result c.requires.within))
          (subst (SlotThins live (slice_index_or ranges c.args.number c.index-ranges-number.result)) (sym (rows-set_here ranges c.args.number slot c.requires.within)) c.sweep_slot.ensures.thin))
      | inr away ↦ subst (SlotThins live (rows_of ranges field)) (sym (rows-set_other ranges c.args.number slot field away)) (slot-same live (rows_of ranges field))
    ]

pub returns-clause-takes : goal.returns-clause-takes
returns-clause-takes g c =
    let ranges = c.args.ranges.now in
    let slot = c.sweep_slot.new.slot in
    lists-field c.args.number c.args.markers.now c.sweep_slot.new.markers (range_list ranges) (range_list (set ranges c.args.number slot)) c.requires.before
    (subst (λ (old : Option Rows). TakesLists c.args.markers.now c.sweep_slot.new.markers (list_from old) (list_from (rows_of (set ranges c.args.number slot) c.args.number))) (sym (rows-here ranges c.args.number c.index-ranges-number.result c.requires.within))
    (subst (λ (new : Option Rows). TakesLists c.args.markers.now c.sweep_slot.new.markers (list_from (slice_index_or ranges c.args.number c.index-ranges-number.result)) (list_from new))
    (sym (rows-set_here ranges c.args.number slot c.requires.within)) c.sweep_slot.ensures.takes))
    (λ name away. ap (λ (found : Option Rows). list_from found name.1) (rows-set_other ranges c.args.number slot name.0 away))
