use Rattle.std.proofs.Common.{◌≤◌}
use Rattle.ft_index.specs.Markers.{AreBefore}
use Rattle.leaf_rows.proofs.lists.plans.filled.Given as goal

-- the next documents may be written
abbrev pub invariant-filling : goal.invariant-filling
invariant-filling l = AreBefore l.markers l.index.lists × (l.index.table.last ≤ l.last)
