use Rattle.std.proofs.Common.{rules}
use Rattle.turn_gate.proofs.SeatLaws.{gives_back_at}
use Rattle.turn_gate.proofs.steps.give_back.Goals as goal

pub store-requires : goal.store-requires
store-requires g c =
    let turn = c.requires.turn in (
      search rules,
      search rules,
      gives_back_at _ _ _ _ _ c.exchange.new.seat.me c.args.seat.now.me.0 c.args.seat.now.me.1 c.args.state c.requires.table.2 c.exchange.ensures.3 turn.2 turn.0 turn.1 c.requires.state,
    )
