use Rattle.collector.specs.Ways.{Going}
use Rattle.collector.proofs.collecting.collect_lists.Given as goal

-- what was tried before the list of a number, and what is left
abbrev pub invariant-loop-named : goal.invariant-loop-named
invariant-loop-named g l = Going l.server l.snapshot l.fn.pass l.pass l.named-index l.counts (g.P.Pace.asked l.fn.pace) (g.P.Pace.asked l.pace) (g.P.Pace.stopped l.pace)
