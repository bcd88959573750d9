use Rattle.std.proofs.Common.{arith}
use Rattle.std.proofs.lemmas.Grind.{common_steps}
use Rattle.id_iters.proofs.phrase.codes_of.Goals as goal

pub words-preserved : goal.words-preserved
words-preserved g c = grind (arith, common_steps)

pub returns : goal.returns
returns g c = grind (arith, common_steps)
