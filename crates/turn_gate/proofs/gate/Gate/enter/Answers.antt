use Rattle.std.proofs.Common.{rules, Some}
use Rattle.turn_gate.proofs.LogLaws.{first_and_rest}
use Rattle.turn_gate.proofs.gate.Gate.enter.Goals as goal

pub exchange-requires : goal.exchange-requires
exchange-requires g c =
    let begun = c.begin_turn.ensures.begun in
    (search rules, (Some begun.0, first_and_rest _ _ _ begun.3))
