use Rattle.query_plan.proofs.OtherLaws.{rest_tells}
use Rattle.query_plan.proofs.PlanLaws.{none_tells}
use Rattle.list_plan.specs.Plans.{ids_of}
use Rattle.query_plan.proofs.query_tree.plan_leaf.Goals as goal

pub returns-in-Empty-clause-set : goal.returns-in-Empty-clause-set
returns-in-Empty-clause-set g c =
    let held = g.T.Lists.held c.args.sources.now.lists.now in
    none_tells c.args.sources.now.def.now held (g.T.Lists.named c.args.sources.now.lists.now) c.args.query.now _ c.in-Empty.is (c.none.ensures.set held)

pub returns-in_default-clause-set : goal.returns-in_default-clause-set
returns-in_default-clause-set g c =
    let held = g.T.Lists.held c.args.sources.now.lists.now in
    rest_tells c.args.sources.now.def.now held (g.T.Lists.named c.args.sources.now.lists.now) (ids_of held c.all.result) (c.all.ensures.set held) c.args.query.now c.requires.single
    c.in_default.not-Empty c.in_default.not-Word c.in_default.not-Prefix c.in_default.not-Phrase c.in_default.not-Tags c.in_default.not-Range
