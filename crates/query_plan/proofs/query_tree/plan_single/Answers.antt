use Rattle.ft_meaning.specs.Holds.{holds}
use Rattle.list_plan.specs.Parts.{part_has}
use Rattle.list_plan.specs.Plans.{ids_of}
use Rattle.query_plan.proofs.PlanLaws.{tells_as}
use Rattle.query_plan.proofs.query_tree.plan_single.Goals as goal

pub returns-clause-set : goal.returns-clause-set
returns-clause-set g c =
    let held = g.T.Lists.held c.args.sources.now.lists.now in
    tells_as c.args.sources.now.def.now held (g.T.Lists.named c.args.sources.now.lists.now) (λ doc. holds c.args.query.now c.args.sources.now.def.now doc)
    (ids_of held c.in_ok-planned.planned) (part_has held c.new.result) (c.new.ensures.set held) c.in_ok-planned.ensures.set
