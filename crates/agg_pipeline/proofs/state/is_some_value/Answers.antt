use Rattle.std.proofs.Common.{◌∙◌, ap, sym}
use Rattle.expr_eval.specs.Values.{is_there}
use Rattle.agg_pipeline.proofs.SeenLaws.{operand-seen}
use Rattle.agg_pipeline.proofs.state.is_some_value.Goals as goal

pub returns : goal.returns
returns c = c.is_there.ensures ∙ ap is_there (sym (operand-seen c.args.value))
