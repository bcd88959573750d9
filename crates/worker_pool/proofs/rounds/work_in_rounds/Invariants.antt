use Rattle.std.proofs.Common.{◌≡◌, ◌≤◌, false, vec_capacity}
use Rattle.worker_pool.specs.Rounds.{Collected}
use Rattle.worker_pool.proofs.rounds.work_in_rounds.Given as goal

abbrev pub invariant-loop : goal.invariant-loop
invariant-loop g l =
    Collected g.P.Pace l.server l.fn.pass l.fn.pace l.pass l.pace
    × (g.P.Pace.stopped l.pace ≡ false)
    × (64 ≤ vec_capacity l.room)
