use Rattle.std.proofs.Common.{◌∙◌, ap}
use Rattle.std.specs.Option.{option_map}
use Rattle.agg_pipeline.specs.Rows.{row_with}
use Rattle.agg_pipeline.proofs.StreamLaws.{dropped, next-of-rows}
use Rattle.agg_pipeline.proofs.stream.pipe_cells.Goals as goal

pub returns-in-None : goal.returns-in-None
returns-in-None c = λ all.
    dropped c.args.def.now c.args.steps.now c.loop-step.step-index c.step-item.result (row_with c.args.doc.now c.loop-step.cells)
    (option_map (row_with c.args.doc.now) c.in_ok-made.field-0) c.loop-step-test.true c.step-item.is
    (c.in_ok-made.ensures (next-of-rows c.args.steps.now c.loop-step.step-index c.step-item.result c.loop-step-test.true c.step-item.is (c.loop-step.invariant all).left))
    (ap (option_map (row_with c.args.doc.now)) c.in-None.is)
    ∙ (c.loop-step.invariant all).made
