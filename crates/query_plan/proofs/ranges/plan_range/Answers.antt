use mir.Syntax.{w64}
use mir.Val.{of_z, to_z}
use Rattle.std.proofs.lemmas.Int.{to_z-of_z}
use Rattle.list_plan.specs.Known.{place_of}
use Rattle.query_plan.proofs.PlanLaws.{range_tells_as}
use Rattle.query_plan.proofs.RangeLaws.{above_least, below_greatest}
use Rattle.list_plan.proofs.UnionLaws.{sets_joined}
use Rattle.query_plan.proofs.ranges.plan_range.Goals as goal

pub returns-clause-set : goal.returns-clause-set
returns-clause-set g c =
    let held = g.T.Lists.held c.args.sources.now.lists.now in
    let named = g.T.Lists.named c.args.sources.now.lists.now in
    range_tells_as c.args.sources.now.def.now held named c.args.field c.args.low c.args.high (to_z w64 (of_z w64 c.args.low)) (to_z w64 (of_z w64 c.args.high))
    c.ranges_between-span.result.from c.ranges_between-span.result.to _ (to_z-of_z w64 c.args.low c.ranges.low) (to_z-of_z w64 c.args.high c.ranges.high)
    (sets_joined held _ c.plan_each_range.new.plans.items c.in_ok-made.made c.in_ok-made.ensures c.in_ok-plan_each_range.ensures.set)
    (above_least c.args.low c.ranges.low) (below_greatest c.args.high c.ranges.high) c.ranges_between-span.ensures.met

pub returns-clause-placed : goal.returns-clause-placed
returns-clause-placed g c =
    (c.in_ok-made.ensures.placed (g.T.Lists.held c.args.sources.now.lists.now) c.args.sources.now.after c.in_ok-plan_each_range.ensures.placed).0

pub returns-clause-free : goal.returns-clause-free
returns-clause-free g c = λ known. c.in_ok-plan_each_range.ensures.free (c.in_ok-made.ensures.known (place_of c.args.sources.now.known.now) (known, tt))
