use Rattle.std.proofs.Common.{length, length-append, ap, arith}
use Rattle.list_plan.proofs.UnionLaws.{gathers_more}
use Rattle.list_plan.proofs.union.gather.Goals as goal

pub parts-preserved : goal.parts-preserved
parts-preserved c =
    let left = simp length-append at (ap length c.in-Some.ensures.items) in
    let more = simp length-append at (ap length c.in_ok-push.ensures.ok) in
    record {
      gathers = gathers_more _ _ _ _ _ c.in-Some.other c.new.result _ c.parts.invariant.gathers c.in-Some.ensures.items c.in_ok-push.ensures.ok c.new.ensures.set c.new.ensures.ready c.new.ensures.leaves;
      fewer = omega arith;
      some = omega arith;
    }
