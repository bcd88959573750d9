use Rattle.std.proofs.Common.{◌∷◌, [], length, arith, ap, ◌∙◌}
use Rattle.std.proofs.lemmas.List.{length-append}
use Rattle.std.specs.Vec.Iter.{into_iter_items}
use Rattle.worker_pool.specs.Works.{IsDone}
use Rattle.worker_pool.proofs.RunLaws.{waited_one}
use Rattle.worker_pool.proofs.waiting.wait_all.Goals as goal

pub loop-one-preserved : goal.loop-one-preserved
loop-one-preserved g c = (
  c.wait.ensures.able,
  waited_one g.S.Spawner.job g.S.Spawner.sound (IsDone g.D.Door.at g.D.Link.Link g.C.Clock g.P.Pace) c.args.running.items c.in-Some.one (into_iter_items c.loop-one.rest) (into_iter_items c.next.new.self) c.loop-one.works.items c.push_reserved.new.self.items c.wait.result
      c.loop-one.invariant.1 c.in-Some.ensures.items c.push_reserved.ensures.items c.wait.ensures.done,
  omega (arith, c.loop-one.invariant.2, ap length c.in-Some.ensures.items, ap length c.push_reserved.ensures.items, length-append c.loop-one.works.items (c.wait.result ∷ []), c.push_reserved.ensures.capacity),
  c.wait.ensures.faults ∙ c.loop-one.invariant.3,
)
