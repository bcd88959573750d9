use Rattle.std.proofs.Common.{length}
use Rattle.list_plan.specs.Plans.{Joins}
use Rattle.list_plan.proofs.union.some_of.Given as goal

abbrev pub invariant-rounds : goal.invariant-rounds
invariant-rounds l = Joins l.fn.plans.items l.left.items

abbrev pub decreases-rounds : goal.decreases-rounds
decreases-rounds l = length l.left.items
