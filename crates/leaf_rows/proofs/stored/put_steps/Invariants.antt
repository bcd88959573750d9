use Rattle.std.proofs.Common.{◌≤◌}
use Rattle.leaf_rows.proofs.stored.put_steps.Given as goal

abbrev pub invariant-steps : goal.invariant-steps
invariant-steps l = l.store.last ≤ l.last
