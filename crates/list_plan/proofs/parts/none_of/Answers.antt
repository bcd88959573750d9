use Rattle.list_plan.proofs.PartLaws.{denies}
use Rattle.list_plan.proofs.parts.none_of.Goals as goal

pub returns : goal.returns
returns c =
    denies c.args.plans.items c.in_ok-some.some c.in_ok-other_of.field-0 c.in_ok-some.ensures c.in_ok-other_of.ensures.set c.in_ok-other_of.ensures.ready
    c.in_ok-other_of.ensures.leaves
