use Rattle.ft_server.specs.Passes.{IsOf}
use Rattle.server_tests.proofs.passes.set_and_get.Given as goal

abbrev pub invariant-loop : goal.invariant-loop
invariant-loop g l = IsOf l.server l.pass
