use Rattle.expr_eval.proofs.OneAnswer.{some_answer, never_both}
use Rattle.expr_eval.proofs.laws.tree_or_fault.Goals as goal

pub returns : goal.returns
returns c = record { either = some_answer; never_both = never_both }
