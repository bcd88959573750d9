use Rattle.std.proofs.Common.{◌≤◌}
use Rattle.ft_index.specs.Markers.{AreBefore}
use Rattle.list_figures.proofs.indexes.fill.Given as goal

-- the next document may be written
abbrev pub invariant-writing : goal.invariant-writing
invariant-writing l = AreBefore l.markers l.index.lists × (l.index.table.last ≤ l.before)
