use Rattle.std.proofs.Common.{length, length-append, ap, arith}
use Rattle.list_plan.proofs.UnionLaws.{group_more, joins_again}
use Rattle.list_plan.proofs.union.grouped.Goals as goal

pub groups-preserved : goal.groups-preserved
groups-preserved c =
    let left = simp length-append at (ap length c.in-Some.ensures.items) in
    let more = simp length-append at (ap length c.in_ok-push.ensures.items) in
    record {
      joins = joins_again _ _ _ c.groups.invariant.joins
          (group_more _ _ _ _ _ c.in-Some.last c.in_ok-with_others.field-0 c.in-Some.ensures.items c.in_ok-with_others.ensures.joins c.in_ok-push.ensures.items);
      fewer = omega (arith, c.in_ok-with_others.ensures.fewer, c.groups.invariant.fewer);
    }
