use Rattle.std.proofs.Common.{arith}
use Rattle.std.proofs.lemmas.Grind.{common_steps, elements}
use Rattle.cmd_parse.proofs.read.read_as.Goals as goal

pub returns-in-Between-clause-exact : goal.returns-in-Between-clause-exact
returns-in-Between-clause-exact c = grind (arith, common_steps)

pub returns-in-Between-clause-asked : goal.returns-in-Between-clause-asked
returns-in-Between-clause-asked c = grind (arith, elements)

pub returns-in-AtLeast-clause-asked : goal.returns-in-AtLeast-clause-asked
returns-in-AtLeast-clause-asked c = grind (arith, elements)

pub returns-in-InPairs-clause-exact : goal.returns-in-InPairs-clause-exact
returns-in-InPairs-clause-exact c = grind (arith, common_steps)

pub returns-in-InPairs-clause-asked : goal.returns-in-InPairs-clause-asked
returns-in-InPairs-clause-asked c = grind (arith, elements)
