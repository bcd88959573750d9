use Rattle.std.specs.Prelude.{◌≡◌, [], ◌∷◌, drop}
use Rattle.agg_pipeline.specs.Rows.{row_with}
use Rattle.agg_pipeline.specs.Steps.{piped}
use Rattle.agg_pipeline.specs.Stream.{AreOfRows}
use Rattle.agg_pipeline.proofs.stream.pipe_cells.Given as goal

-- what the steps that are left make of the row of the document and the cells
abbrev pub invariant-loop-step : goal.invariant-loop-step
invariant-loop-step l = AreOfRows l.steps → record {
  made : piped l.def (drop l.step-index l.steps) (row_with l.doc l.cells ∷ []) ≡ piped l.def l.steps (row_with l.doc l.fn.cells ∷ []);
  left : AreOfRows (drop l.step-index l.steps);
}
