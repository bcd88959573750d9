use Rattle.std.specs.Prelude.{◌≡◌, drop}
use Rattle.agg_pipeline.specs.Steps.{piped}
use Rattle.agg_pipeline.proofs.pipeline.pipe.Given as goal

-- what the steps that are left make of the rows
abbrev pub invariant-loop-step : goal.invariant-loop-step
invariant-loop-step l = piped l.def (drop l.step-index l.steps) l.rows.items ≡ piped l.def l.fn.steps l.fn.rows.items
