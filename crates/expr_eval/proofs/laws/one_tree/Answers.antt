use Rattle.expr_eval.proofs.OneAnswer.{one_tree_of}
use Rattle.expr_eval.proofs.laws.one_tree.Goals as goal

pub returns : goal.returns
returns c = one_tree_of
