use Rattle.std.proofs.Common.{◌≡◌, length}
use Rattle.system_ports.proofs.making.make_clocks.Given as goal

abbrev pub invariant-loop : goal.invariant-loop
invariant-loop g l = length l.clocks.items ≡ l.counter
