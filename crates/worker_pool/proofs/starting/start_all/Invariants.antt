use Rattle.std.proofs.Common.{◌≤◌, ◌+◌, length, vec_capacity}
use Rattle.std.specs.Vec.Iter.{into_iter_items, into_iter_len}
use Rattle.worker_pool.specs.Works.{IsReady}
use Rattle.worker_pool.proofs.RunLaws.{Starting}
use Rattle.worker_pool.proofs.starting.start_all.Given as goal

abbrev pub invariant-loop-job : goal.invariant-loop-job
invariant-loop-job g l =
    g.S.Spawner.able l.spawner
    × Starting g.S.Spawner.job g.S.Spawner.sound (IsReady g.D.Door.at g.D.Link.Link g.C.Clock g.P.Pace) l.fn.jobs.items (into_iter_items l.rest) l.running.items
    × (length (into_iter_items l.rest) + length l.running.items ≤ vec_capacity l.running)
    × (g.S.Spawner.faults l.fn.spawner ≤ g.S.Spawner.faults l.spawner)

abbrev pub decreases-loop-job : goal.decreases-loop-job
decreases-loop-job g l = into_iter_len l.rest
