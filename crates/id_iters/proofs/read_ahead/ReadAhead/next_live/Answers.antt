use Rattle.std.proofs.Common.{arith}
use Rattle.std.proofs.lemmas.Grind.{common_steps}
use Rattle.id_iters.proofs.read_ahead.ReadAhead.next_live.Goals as goal

pub returns-then-is_live-clause-rest : goal.returns-then-is_live-clause-rest
returns-then-is_live-clause-rest g c = grind (arith, common_steps)

pub returns-then-is_live-clause-first : goal.returns-then-is_live-clause-first
returns-then-is_live-clause-first g c = grind (arith, common_steps)

pub ids-preserved : goal.ids-preserved
ids-preserved g c = grind (arith, common_steps)

pub returns-clause-rest : goal.returns-clause-rest
returns-clause-rest g c = grind (arith, common_steps)

pub returns-clause-first : goal.returns-clause-first
returns-clause-first g c = grind (arith, common_steps)
