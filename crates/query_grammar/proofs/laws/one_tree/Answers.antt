use Rattle.query_grammar.proofs.OneAnswer.{one_meaning}
use Rattle.query_grammar.proofs.laws.one_tree.Goals as goal

pub returns : goal.returns
returns c = one_meaning
