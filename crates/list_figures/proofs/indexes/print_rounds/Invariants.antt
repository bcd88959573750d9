use Rattle.ft_index.specs.Markers.{AreBefore}
use Rattle.list_figures.proofs.indexes.print_rounds.Given as goal

-- the next part may be taken
abbrev pub invariant-parts : goal.invariant-parts
invariant-parts l = AreBefore l.markers l.index.lists
