use Rattle.std.proofs.Common.{rules}
use Rattle.turn_gate.proofs.SeatLaws.{counts_at}
use Rattle.turn_gate.proofs.steps.count_passes.Goals as goal

pub load-requires : goal.load-requires
load-requires g c = (search rules, search rules, counts_at _ _ _ _ _ _ _ c.requires.picked c.requires.pass.0 c.requires.pass.1)
