use Rattle.ft_server.specs.Passes.{IsOf}
use Rattle.server_tests.proofs.cycles.end_so.Given as goal

abbrev pub invariant-loop-answers : goal.invariant-loop-answers
invariant-loop-answers g l = IsOf l.server l.pass
