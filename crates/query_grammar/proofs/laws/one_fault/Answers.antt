use Rattle.query_grammar.proofs.OneAnswer.{one_fault}
use Rattle.query_grammar.proofs.laws.one_fault.Goals as goal

pub returns : goal.returns
returns c = one_fault
