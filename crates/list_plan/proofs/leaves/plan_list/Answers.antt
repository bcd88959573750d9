use Rattle.std.proofs.Common.{ap, ◌∙◌}
use Rattle.id_iters.specs.Leaves.{leaf_has}
use Rattle.list_plan.proofs.leaves.plan_list.Goals as goal

pub returns-clause-set : goal.returns-clause-set
returns-clause-set g c =
    let held = g.T.Lists.held c.args.sources.now.lists.now in
    c.of_leaf.ensures.set held ∙ ap (leaf_has held) c.in_ok-leaf.ensures.leaf
