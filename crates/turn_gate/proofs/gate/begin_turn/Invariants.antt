use Rattle.std.proofs.Common.{◌≡◌, []}
use Rattle.turn_gate.proofs.gate.begin_turn.Given as goal

abbrev pub invariant-loop : goal.invariant-loop
invariant-loop g l = (l.seat.table_id ≡ l.fn.seat.table_id) × (l.seat.id ≡ l.fn.seat.id) × (l.seat.me ≡ l.fn.seat.me)

abbrev pub ghosts-try_turn : goal.ghosts-try_turn
ghosts-try_turn g a = record { caller = a.seat.now.id; added = [] }
