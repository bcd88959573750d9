use Rattle.std.proofs.Common.{◌≤◌}
use Rattle.ft_index.specs.Markers.{AreBefore}
use Rattle.leaf_rows.proofs.lists.parts.put_steps.Given as goal

-- the next step may be taken
abbrev pub invariant-steps : goal.invariant-steps
invariant-steps l = AreBefore l.markers l.index.lists × (l.index.table.last ≤ l.last)
