use Rattle.ft_server.specs.Passes.{IsOf}
use Rattle.server_tests.proofs.cycles.ask_all.Given as goal

abbrev pub invariant-loop-line : goal.invariant-loop-line
invariant-loop-line g l = IsOf l.server l.pass
