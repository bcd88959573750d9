use Rattle.std.proofs.Common.{get_or, pos, true, ◌∙◌, rules, arith}
use Rattle.std.proofs.lemmas.Grind.{common_steps}
use Rattle.std.proofs.lemmas.Int.{to_z-of_z}
use mir.Syntax.{w64}
use mir.Val.{SFits}
use Rattle.numeric_ranges.proofs.ValueLaws.{cast_lt, cast_small, first_above_is, none_above}
use Rattle.numeric_ranges.proofs.cut.first_above.Goals as goal

pub returns-then-smallest-value-clause-value : goal.returns-then-smallest-value-clause-value
returns-then-smallest-value-clause-value c = λ all moved.
    let xs = c.args.rising.now in
    let v = get_or xs c.rising.value-index (pos 0) in
    let f : SFits w64 v = search rules in
    let less = cast_lt c.args.smallest v true c.ranges.smallest f c.if-smallest-value.true in
    to_z-of_z w64 v f ∙ first_above_is all xs c.rising.value-index c.args.smallest c.requires.sorted c.rising-test.true
    (cast_small xs c.rising.value-index c.args.smallest c.ranges.smallest c.rising.invariant) less moved

pub returns-clause-value : goal.returns-clause-value
returns-clause-value c = absurd (none_above c.args.rising.now c.rising.value-index c.args.smallest c.rising-test.false
    (cast_small c.args.rising.now c.rising.value-index c.args.smallest c.ranges.smallest c.rising.invariant) c.requires.mixed)

pub returns-clause-member : goal.returns-clause-member
returns-clause-member c = absurd (none_above c.args.rising.now c.rising.value-index c.args.smallest c.rising-test.false
    (cast_small c.args.rising.now c.rising.value-index c.args.smallest c.ranges.smallest c.rising.invariant) c.requires.mixed)

pub returns-clause-above : goal.returns-clause-above
returns-clause-above c = absurd (none_above c.args.rising.now c.rising.value-index c.args.smallest c.rising-test.false
    (cast_small c.args.rising.now c.rising.value-index c.args.smallest c.ranges.smallest c.rising.invariant) c.requires.mixed)

pub rising-preserved : goal.rising-preserved
rising-preserved c = grind (arith, common_steps)
