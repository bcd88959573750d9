use Rattle.std.proofs.Common.{ap, subst, arith}
use Rattle.std.proofs.lemmas.Grind.{common_steps}
use mir.Syntax.{w64}
use mir.Val.{of_z}
use Rattle.numeric_ranges.specs.Rows.{Knows}
use Rattle.numeric_ranges.proofs.SpreadLaws.{mixed_more}
use Rattle.numeric_ranges.proofs.spread.Spread.with.Goals as goal

pub returns-else-other-value-clause-knows : goal.returns-else-other-value-clause-knows
returns-else-other-value-clause-knows c = λ es id knows.
    let one = subst (λ s. Knows s es) c.in-One.is knows in
    mixed_more es id c.in-One.other c.args.value one.0 one.1 (λ same. absurd (c.if-other-value.false (ap (of_z w64) same)))

pub returns-then-other-value-clause-knows : goal.returns-then-other-value-clause-knows
returns-then-other-value-clause-knows c = grind (arith, common_steps)

pub returns-in-Many-clause-knows : goal.returns-in-Many-clause-knows
returns-in-Many-clause-knows c = grind (arith, common_steps)
