use Rattle.std.proofs.Common.{rules}
use Rattle.turn_gate.proofs.SeatLaws.{compares_at}
use Rattle.turn_gate.proofs.steps.compare_number.Goals as goal

pub load-requires : goal.load-requires
load-requires g c = (search rules, search rules, compares_at _ _ _ _ _ _ _ c.requires.picked c.requires.pass)
