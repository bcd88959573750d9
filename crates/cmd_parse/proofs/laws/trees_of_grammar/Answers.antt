use Rattle.cmd_parse.proofs.ExpressionLaws.{no-tree, tree-found, tree-spelled}
use Rattle.cmd_parse.proofs.laws.trees_of_grammar.Goals as goal

pub returns : goal.returns
returns c = record { found = tree-found; spelled = tree-spelled; refused = no-tree }
