use Rattle.std.proofs.Common.{length, arith, ap}
use Rattle.std.specs.Arc.{arc_value}
use Rattle.std.specs.Vec.Iter.{into_iter_items}
use Rattle.worker_pool.proofs.FillingLaws.{filled, snoc_length}
use Rattle.worker_pool.proofs.jobs.add_workers.Goals as goal

pub making-preserved : goal.making-preserved
making-preserved g c =
    let more = c.push_reserved.ensures in
    let made = c.next_worker.ensures in
    let next = rw c.in-Some.is at c.in_ok-worker.ensures.next in (
      made.fresh,
      filled (arc_value c.args.server.now) c.args.doors.items (into_iter_items c.making.doors) (into_iter_items c.next_worker.new.doors) c.args.clocks.items (into_iter_items c.making.clocks) (into_iter_items c.next_worker.new.clocks)
          c.making.workers.items c.push_reserved.new.self.items next.0 next.1 c.in-Some.worker c.making.invariant.1 next.2 next.3 more.items next.4,
      omega (arith, c.making.invariant.2, ap length next.2, snoc_length _ _ _ more.items, more.capacity),
    )
