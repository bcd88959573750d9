use Rattle.std.proofs.Common.{◌≤◌}
use Rattle.worker_pool.specs.Visits.{Visited}
use Rattle.worker_pool.proofs.worker.serve_links.Given as goal

abbrev pub invariant-loop : goal.invariant-loop
invariant-loop g l =
    Visited g.D.Link.Link g.C.Clock l.server g.D.Door.at l.fn.pass l.fn.door l.fn.clock l.pass l.door l.clock
    × ((g.D.Door.at l.fn.door).faults ≤ (g.D.Door.at l.door).faults)
