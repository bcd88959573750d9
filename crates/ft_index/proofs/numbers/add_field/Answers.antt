use Rattle.std.proofs.Common.{◌<◌, ℕ, length, IfSome, set, slice_index_or, sym, subst, ap, inl, inr, arith, Option}
use Rattle.std.proofs.lemmas.Grind.{common_steps, elements}
use Rattle.std.proofs.lemmas.Result.{on_ok_weaker}
use Rattle.numeric_ranges.specs.Ranges.{Rows}
use Rattle.ft_index.specs.Lists.{list_from, rows_of}
use Rattle.ft_index.specs.Markers.{AllBefore, TakesLists, range_list, slot_marker}
use Rattle.ft_index.specs.Numbering.{RowsGain, value_entry}
use Rattle.ft_index.specs.UpTo.{RowsUpTo}
use Rattle.ft_index.proofs.FieldLaws.{decided}
use Rattle.ft_index.proofs.SlotLaws.{rows-here, rows-set_here, rows-set_other}
use Rattle.ft_index.proofs.TakingLaws.{lists-field, lists-none}
use Rattle.ft_index.proofs.numbers.add_field.Goals as goal

pub add_value-requires-clause-before : goal.add_value-requires-clause-before
add_value-requires-clause-before c =
    let within : c.args.number < length c.args.ranges.now = omega (arith, c.if-ranges-number.false) in
    subst (λ (slot : Option Rows). AllBefore c.args.markers.now (slot_marker slot)) (rows-here c.args.ranges.now c.args.number c.index-ranges-number.result within)
    (λ low. c.requires.before (c.args.number, low))

pub returns-clause-others : goal.returns-clause-others
returns-clause-others c = rows-set_other c.args.ranges.now c.args.number c.add_value.new.slot

pub returns-clause-here : goal.returns-clause-here
returns-clause-here c =
    let within : c.args.number < length c.args.ranges.now = omega (arith, c.if-ranges-number.false) in
    on_ok_weaker c.add_value.result (λ gains.
    subst (λ (old : Option Rows). RowsGain (value_entry c.args.id c.args.value) old (rows_of (set c.args.ranges.now c.args.number c.add_value.new.slot) c.args.number)) (sym (rows-here c.args.ranges.now c.args.number c.index-ranges-number.result within))
    (subst (RowsGain (value_entry c.args.id c.args.value) (slice_index_or c.args.ranges.now c.args.number c.index-ranges-number.result)) (sym (rows-set_here c.args.ranges.now c.args.number c.add_value.new.slot within)) gains))
    c.add_value.ensures.gains

pub returns-clause-up_to : goal.returns-clause-up_to
returns-clause-up_to c number =
    let within : c.args.number < length c.args.ranges.now = omega (arith, c.if-ranges-number.false) in
    elim (decided number c.args.number) [
      | inl is ↦ subst (λ (n : ℕ). IfSome (rows_of (set c.args.ranges.now c.args.number c.add_value.new.slot) n) (RowsUpTo c.args.id)) (sym is)
          (subst (λ (slot : Option Rows). IfSome slot (RowsUpTo c.args.id)) (sym (rows-set_here c.args.ranges.now c.args.number c.add_value.new.slot within)) c.add_value.ensures.up_to)
      | inr away ↦ subst (λ (slot : Option Rows). IfSome slot (RowsUpTo c.args.id)) (sym (rows-set_other c.args.ranges.now c.args.number c.add_value.new.slot number away)) (c.requires.up_to number)
    ]

pub returns-clause-takes : goal.returns-clause-takes
returns-clause-takes c =
    let within : c.args.number < length c.args.ranges.now = omega (arith, c.if-ranges-number.false) in
    lists-field c.args.number c.args.markers.now c.add_value.new.markers (range_list c.args.ranges.now) (range_list (set c.args.ranges.now c.args.number c.add_value.new.slot)) c.requires.before
    (subst (λ (old : Option Rows). TakesLists c.args.markers.now c.add_value.new.markers (list_from old) (list_from (rows_of (set c.args.ranges.now c.args.number c.add_value.new.slot) c.args.number))) (sym (rows-here c.args.ranges.now c.args.number c.index-ranges-number.result within))
    (subst (λ (new : Option Rows). TakesLists c.args.markers.now c.add_value.new.markers (list_from (slice_index_or c.args.ranges.now c.args.number c.index-ranges-number.result)) (list_from new))
    (sym (rows-set_here c.args.ranges.now c.args.number c.add_value.new.slot within)) c.add_value.ensures.takes))
    (λ name away. ap (λ (slot : Option Rows). list_from slot name.1) (rows-set_other c.args.ranges.now c.args.number c.add_value.new.slot name.0 away))

pub returns-then-ranges-number-clause-here : goal.returns-then-ranges-number-clause-here
returns-then-ranges-number-clause-here c = grind (arith, elements)

pub add_value-requires-clause-above : goal.add_value-requires-clause-above
add_value-requires-clause-above c = grind (arith, elements)

pub returns-clause-err : goal.returns-clause-err
returns-clause-err c = grind (arith, common_steps)

pub returns-then-ranges-number-clause-takes : goal.returns-then-ranges-number-clause-takes
returns-then-ranges-number-clause-takes c = lists-none c.args.markers.now (range_list c.args.ranges.now)
