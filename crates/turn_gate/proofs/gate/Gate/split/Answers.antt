use Rattle.std.proofs.Common.{rules, ap}
use Rattle.turn_gate.proofs.RuleLaws.{splits}
use Rattle.turn_gate.proofs.gate.Gate.split.Goals as goal

pub split_seat-seat-requires : goal.split_seat-seat-requires
split_seat-seat-requires g c = (search rules, search rules, splits _ _ _ _ _ (ap (λ m. m.0.spent) c.count_passes.ensures.passes) (ap (λ m. m.0.in_turn) c.count_passes.ensures.passes))
