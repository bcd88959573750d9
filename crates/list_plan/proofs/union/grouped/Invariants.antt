use Rattle.std.proofs.Common.{◌≤◌, ◌+◌, ◌*◌, ◌-◌, ◌++◌, length}
use Rattle.list_plan.specs.Plans.{Joins}
use Rattle.list_plan.proofs.union.grouped.Given as goal

abbrev pub invariant-groups : goal.invariant-groups
invariant-groups l = record {
  joins : Joins l.fn.plans.items (l.left.items ++ l.groups.items);
  fewer : 2 * length l.groups.items + length l.left.items ≤ length l.fn.plans.items + (1 - length l.left.items);
}

abbrev pub decreases-groups : goal.decreases-groups
decreases-groups l = length l.left.items
