use Rattle.std.proofs.Common.{rules}
use Rattle.turn_gate.proofs.SeatLaws.{tries_at}
use Rattle.turn_gate.proofs.steps.try_turn.Goals as goal

pub swap-requires : goal.swap-requires
swap-requires g c = (search rules, search rules, tries_at _ _ _ _ _ _ _ c.requires.picked c.requires.pass.1 c.requires.pass.0)
