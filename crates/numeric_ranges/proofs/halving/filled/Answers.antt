use Rattle.std.proofs.Common.{ℕ, get_or, pos, true, false, int_lt, int_le, arith}
use Rattle.std.proofs.lemmas.List.{get_or_default}
use Rattle.posting_block.specs.declared.hits.NumHit.{NumHit}
use Rattle.numeric_ranges.proofs.HalfLaws.{half_below}
use Rattle.numeric_ranges.proofs.FilledLaws.{filled_left, filled_right, filled_along, flag_at}
use Rattle.numeric_ranges.proofs.ValueLaws.{lt_from_le, lt_from_not_le}
use Rattle.numeric_ranges.proofs.halving.filled.Goals.{then-flags-i+in_ok-push, else-flags-i+in_ok-push-2}
use Rattle.numeric_ranges.proofs.halving.filled.Goals as goal

pub push-requires : goal.push-requires
push-requires c =
    let es = c.args.entries.now in
    let d : ℕ × NumHit = (0, record { value = pos 0 }) in
    let e = get_or es c.entries.id-index d in
    half_below (λ x. int_le c.args.right.low x.1.value) es c.entries.id-index e c.entries.above.list c.args.right.list.marker c.requires.rises c.entries-test.true
    (get_or_default es c.entries.id-index d e c.entries-test.true) c.entries.invariant.filled.right_list

pub push-requires-else-flags-i : goal.push-requires-else-flags-i
push-requires-else-flags-i c =
    let es = c.args.entries.now in
    let d : ℕ × NumHit = (0, record { value = pos 0 }) in
    let e = get_or es c.entries.id-index d in
    half_below (λ x. int_lt x.1.value c.args.right.low) es c.entries.id-index e c.entries.below.list c.args.left.list.marker c.requires.rises c.entries-test.true
    (get_or_default es c.entries.id-index d e c.entries-test.true) c.entries.invariant.filled.left_list

pub entries-preserved : goal.entries-preserved
entries-preserved c =
    let es = c.args.entries.now in
    let d : ℕ × NumHit = (0, record { value = pos 0 }) in
    let e = get_or es c.entries.id-index d in
    let is = get_or_default es c.entries.id-index d e c.entries-test.true in
    record {
      filled = elim c.if-flags-i.branch [
        | then-flags-i+in_ok-push w ↦
            filled_along c.args.left c.args.right _ c.if-flags-i.below c.if-flags-i.above c.entries.below w.push.new.self w.below-is w.above-is
            (filled_right c.args.left c.args.right es c.entries.id-index e c.entries.below c.entries.above w.push.new.self c.entries-test.true is
            (lt_from_le c.args.right.low e.1.value (flag_at es c.args.flags.now c.args.right.low c.entries.i c.entries.id-index d true c.entries.invariant.next c.entries-test.true c.requires.flags w.if-flags-i.true))
            c.entries.invariant.filled w.in_ok-push.ensures.low w.in_ok-push.ensures.ok w.in_ok-push.ensures.knows)
        | else-flags-i+in_ok-push-2 w ↦
            filled_along c.args.left c.args.right _ c.if-flags-i.below c.if-flags-i.above w.push-else-flags-i.new.self c.entries.above w.below-is w.above-is
            (filled_left c.args.left c.args.right es c.entries.id-index e c.entries.below c.entries.above w.push-else-flags-i.new.self c.entries-test.true is
            (lt_from_not_le c.args.right.low e.1.value (flag_at es c.args.flags.now c.args.right.low c.entries.i c.entries.id-index d false c.entries.invariant.next c.entries-test.true c.requires.flags w.if-flags-i.false))
            c.entries.invariant.filled w.in_ok-push-2.ensures.low w.in_ok-push-2.ensures.ok w.in_ok-push-2.ensures.knows)
      ];
      next = omega arith;
    }
