use Rattle.std.proofs.Common.{arith, rules, subst, sym, ℕ}
use Rattle.std.proofs.lemmas.Grind.{common_steps, elements}
use Rattle.ft_index.specs.Adding.{RangesUnseen}
use Rattle.ft_index.specs.Lists.{rows_of}
use Rattle.ft_index.specs.Markers.{range_list, range_marker}
use Rattle.ft_index.specs.Numbering.{RowsGain, value_entry}
use Rattle.ft_index.specs.UpTo.{RangesUpTo}
use Rattle.ft_index.proofs.NumberLaws.{gain-next, gain-unseen}
use Rattle.ft_index.proofs.TakingLaws.{before-taken, lists-again, lists-none}
use Rattle.ft_index.proofs.numbers.add_all.Goals as goal

pub add_field-requires-clause-before : goal.add_field-requires-clause-before
add_field-requires-clause-before c =
    before-taken c.args.markers.now c.loop-number.markers (range_marker c.args.ranges.now) (range_marker c.loop-number.ranges) c.requires.before c.loop-number.invariant.takes.markers

pub returns-in_err-add_field-clause-unseen : goal.returns-in_err-add_field-clause-unseen
returns-in_err-add_field-clause-unseen c =
    subst (RangesUnseen c.args.doc.now.id c.args.ranges.now) (sym c.in_err-add_field.ensures.err) c.loop-number.invariant.unseen

pub returns-in_err-add_field-clause-takes : goal.returns-in_err-add_field-clause-takes
returns-in_err-add_field-clause-takes c =
    lists-again c.args.markers.now c.loop-number.markers c.add_field.new.markers (range_list c.args.ranges.now) (range_list c.loop-number.ranges) (range_list c.add_field.new.ranges)
    c.requires.before c.loop-number.invariant.takes c.add_field.ensures.takes

pub loop-number-preserved : goal.loop-number-preserved
loop-number-preserved c = record {
  added = gain-next c.loop-number.number c.args.fields.now c.index-fields-number.result c.searched_number-value.result c.args.doc.now c.args.ranges.now c.loop-number.ranges c.add_field.new.ranges
      c.loop-number-test.true c.index-fields-number.is c.searched_number-value.ensures c.loop-number.invariant.added
      (subst (λ (id : ℕ). RowsGain (value_entry id c.searched_number-value.result) (rows_of c.loop-number.ranges c.loop-number.number) (rows_of c.add_field.new.ranges c.loop-number.number)) c.id.ensures c.in_ok-add_field.ensures.here)
      c.add_field.ensures.others;
  unseen = λ def. gain-unseen c.loop-number.number c.searched_number-value.result c.args.doc.now.id c.args.ranges.now c.loop-number.ranges c.add_field.new.ranges def
      (c.loop-number.invariant.unseen def)
      (subst (λ (id : ℕ). RowsGain (value_entry id c.searched_number-value.result) (rows_of c.loop-number.ranges c.loop-number.number) (rows_of c.add_field.new.ranges c.loop-number.number)) c.id.ensures c.in_ok-add_field.ensures.here)
      c.add_field.ensures.others;
  up_to = subst (λ (id : ℕ). RangesUpTo id c.add_field.new.ranges) c.id.ensures c.add_field.ensures.up_to;
  takes = lists-again c.args.markers.now c.loop-number.markers c.add_field.new.markers (range_list c.args.ranges.now) (range_list c.loop-number.ranges) (range_list c.add_field.new.ranges)
      c.requires.before c.loop-number.invariant.takes c.add_field.ensures.takes;
}

pub add_field-requires-clause-later : goal.add_field-requires-clause-later
add_field-requires-clause-later c = grind (arith, elements)

pub returns-clause-ok : goal.returns-clause-ok
returns-clause-ok c = grind (arith, common_steps)

pub loop-number-init : goal.loop-number-init
loop-number-init c =
    let takes = lists-none c.args.markers.now (range_list c.args.ranges.now) in
    search (rules, takes)
