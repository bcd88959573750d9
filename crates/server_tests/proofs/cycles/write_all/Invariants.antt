use Rattle.ft_server.specs.Passes.{IsOf}
use Rattle.server_tests.proofs.cycles.write_all.Given as goal

abbrev pub invariant-loop-first : goal.invariant-loop-first
invariant-loop-first g l = IsOf l.server l.pass
