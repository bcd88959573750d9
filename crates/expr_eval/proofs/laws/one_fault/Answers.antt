use Rattle.expr_eval.proofs.OneAnswer.{one_fault_of}
use Rattle.expr_eval.proofs.laws.one_fault.Goals as goal

pub returns : goal.returns
returns c = one_fault_of
