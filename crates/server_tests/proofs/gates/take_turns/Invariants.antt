use Rattle.std.proofs.Common.{◌≡◌, ◌+◌}
use Rattle.turn_gate.specs.Log.{StartsWith}
use Rattle.server_tests.proofs.gates.take_turns.Given as goal

abbrev pub invariant-loop-taken : goal.invariant-loop-taken
invariant-loop-taken g l =
    record {
      gate : l.pass.gate ≡ l.fn.pass.gate;
      caller : l.pass.caller ≡ l.fn.pass.caller;
      turns : l.pass.turns ≡ l.fn.pass.turns + l.taken;
      log : StartsWith l.pass.seen l.fn.pass.seen;
    }
