use Rattle.std.proofs.Common.{◌≤◌, ◌+◌, length}
use Rattle.list_plan.specs.Groups.{Gathers}
use Rattle.list_plan.proofs.union.gather.Given as goal

abbrev pub invariant-parts : goal.invariant-parts
invariant-parts l = record {
  gathers : Gathers l.fn.left.items l.fn.parts l.left.items l.parts;
  fewer : length l.left.items + length l.parts ≤ length l.fn.left.items + 1;
  some : 1 ≤ length l.parts;
}

abbrev pub decreases-parts : goal.decreases-parts
decreases-parts l = length l.left.items
