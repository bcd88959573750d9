use Rattle.std.proofs.Common.{◌∙◌, sym, arith}
use Rattle.expr_eval.specs.Lending.{row_of}
use Rattle.agg_pipeline.proofs.StatesLaws.{all-stepped}
use Rattle.agg_pipeline.proofs.states.step_all.Goals as goal

pub returns : goal.returns
returns c =
    sym (all-stepped c.args.def.now c.args.reduce.now c.loop-at.states (row_of c.args.row) c.loop-at.at (omega (arith, c.min-at-end.ensures)))
    ∙ c.loop-at.invariant
