use Rattle.std.proofs.Common.{arith}
use Rattle.std.proofs.lemmas.Grind.{common_steps}
use Rattle.id_iters.proofs.bits.Bits.move_to.Goals as goal

pub returns-clause-clear : goal.returns-clause-clear
returns-clause-clear c = grind (arith, common_steps)
