use Rattle.query_grammar.proofs.OneAnswer.{never_both, some_answer}
use Rattle.query_grammar.proofs.laws.tree_or_fault.Goals as goal

pub returns : goal.returns
returns c = record { either = some_answer; never_both = never_both }
