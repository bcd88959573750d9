use Rattle.std.proofs.Common.{◌∙◌, ap, sym}
use Rattle.expr_eval.specs.Values.{number_of}
use Rattle.agg_pipeline.proofs.SeenLaws.{operand-seen}
use Rattle.agg_pipeline.proofs.state.number.Goals as goal

pub returns : goal.returns
returns c = c.number.ensures ∙ ap number_of (sym (operand-seen c.args.value))
