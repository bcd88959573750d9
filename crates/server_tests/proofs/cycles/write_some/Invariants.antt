use Rattle.ft_server.specs.Passes.{IsOf}
use Rattle.server_tests.proofs.cycles.write_some.Given as goal

abbrev pub invariant-loop-second : goal.invariant-loop-second
invariant-loop-second g l = IsOf l.server l.pass
