use Rattle.std.specs.Prelude.{◌≡◌, ◌++◌, map, take, drop}
use Rattle.ft_machine.specs.Opening.{cells_alone}
use Rattle.ft_engine.proofs.indexes.bodies.keep_cells.Given as goal

-- the rows so far have their cells alone, and the others are as they were
abbrev pub invariant-loop-row : goal.invariant-loop-row
invariant-loop-row l = l.rows ≡ map cells_alone (take l.row-index l.fn.rows) ++ drop l.row-index l.fn.rows
