use Rattle.std.proofs.Common.{◌≤◌, ◌+◌, length, vec_capacity}
use Rattle.std.specs.Arc.{arc_value}
use Rattle.std.specs.Vec.Iter.{into_iter_items, into_iter_len}
use Rattle.worker_pool.specs.Jobs.{IsFresh}
use Rattle.worker_pool.proofs.FillingLaws.{Filling}
use Rattle.worker_pool.proofs.jobs.add_workers.Given as goal

abbrev pub invariant-making : goal.invariant-making
invariant-making g l =
    IsFresh (arc_value l.server) l.pass
    × Filling (arc_value l.server) l.fn.doors.items (into_iter_items l.doors) l.fn.clocks.items (into_iter_items l.clocks) l.workers.items
    × (length l.workers.items + length (into_iter_items l.doors) ≤ vec_capacity l.workers)

abbrev pub decreases-making : goal.decreases-making
decreases-making g l = into_iter_len l.doors
