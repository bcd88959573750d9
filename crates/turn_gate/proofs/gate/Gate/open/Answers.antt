use Rattle.turn_gate.proofs.RuleLaws.{opens}
use Rattle.turn_gate.proofs.gate.Gate.open.Goals as goal

pub new-requires : goal.new-requires
new-requires g c = rw (c.in_ok-one_slot.ensures, c.first_number-first.ensures) (opens _ _ _ _ c.requires.empty)
