use Rattle.std.proofs.Common.{◌≡◌, ◌≤◌, ◌+◌, length, vec_capacity}
use Rattle.std.specs.Vec.Iter.{into_iter_items, into_iter_len}
use Rattle.worker_pool.specs.Works.{IsDone}
use Rattle.worker_pool.proofs.RunLaws.{Waiting}
use Rattle.worker_pool.proofs.waiting.wait_all.Given as goal

abbrev pub invariant-loop-one : goal.invariant-loop-one
invariant-loop-one g l =
    g.S.Spawner.able l.spawner
    × Waiting g.S.Spawner.job g.S.Spawner.sound (IsDone g.D.Door.at g.D.Link.Link g.C.Clock g.P.Pace) l.fn.running.items (into_iter_items l.rest) l.works.items
    × (length (into_iter_items l.rest) + (length l.works.items + 1) ≤ vec_capacity l.works)
    × (g.S.Spawner.faults l.spawner ≡ g.S.Spawner.faults l.fn.spawner)

abbrev pub decreases-loop-one : goal.decreases-loop-one
decreases-loop-one g l = into_iter_len l.rest
