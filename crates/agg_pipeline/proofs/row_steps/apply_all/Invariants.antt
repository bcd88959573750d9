use Rattle.std.specs.Prelude.{◌≡◌, ◌++◌, map, take, drop}
use Rattle.agg_pipeline.specs.Steps.{applied}
use Rattle.agg_pipeline.proofs.row_steps.apply_all.Given as goal

-- the rows so far have the cell, and the others are as they were
abbrev pub invariant-loop-row : goal.invariant-loop-row
invariant-loop-row l = l.rows ≡ map (applied l.def l.expr l.name) (take l.row-index l.fn.rows) ++ drop l.row-index l.fn.rows
