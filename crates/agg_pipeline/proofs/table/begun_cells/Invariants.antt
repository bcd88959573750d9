use Rattle.std.proofs.Common.{◌≡◌, [], drop}
use Rattle.expr_eval.specs.Lending.{row_of}
use Rattle.agg_pipeline.specs.Grouping.{tuple_cells}
use Rattle.agg_pipeline.specs.Rows.{set_cells}
use Rattle.agg_pipeline.proofs.table.begun_cells.Given as goal

-- what was set and what is left are the whole
abbrev pub invariant-loop-name : goal.invariant-loop-name
invariant-loop-name l = set_cells l.cells (tuple_cells l.def (drop l.name-index l.by) (row_of l.row)) ≡ set_cells [] (tuple_cells l.def l.by (row_of l.row))
