use Rattle.std.proofs.Common.{rules}
use Rattle.turn_gate.proofs.RuleLaws.{joins}
use Rattle.turn_gate.proofs.SeatLaws.{checks_joined}
use Rattle.turn_gate.proofs.steps.join_seats.Goals as goal

pub join_seat-requires : goal.join_seat-requires
join_seat-requires g c =
    let one = c.requires.pass in
    let two = c.requires.other in
    (search rules, search rules, search rules, search rules, joins _ _ _ _ _ _ _ one.1 two.1 one.0 two.0)

pub load-requires : goal.load-requires
load-requires g c = (search rules, search rules, checks_joined _ _ _ _ _ _ c.args.seat.now.me.0 c.args.other.me.0 _ c.join_seat.ensures.2)
