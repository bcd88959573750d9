use Rattle.id_iters.specs.Leaves.{list_has}
use Rattle.id_iters.specs.declared.list_name.ListName.{ListName}
use Rattle.list_plan.specs.Known.{place_of}
use Rattle.list_plan.proofs.UnionLaws.{lists_set}
use Rattle.list_plan.proofs.leaves.plan_lists.Goals as goal

pub returns-clause-set : goal.returns-clause-set
returns-clause-set g c =
    let held = g.T.Lists.held c.args.sources.now.lists.now in
    lists_set held (λ (name : ListName). list_has held name c.args.wanted.now.fields.now c.args.wanted.now.low c.args.wanted.now.high)
    c.args.lists.items c.plan_each_list.new.plans.items c.in_ok-made.made c.in_ok-made.ensures c.in_ok-plan_each_list.ensures.set

pub returns-clause-placed : goal.returns-clause-placed
returns-clause-placed g c =
    (c.in_ok-made.ensures.placed (g.T.Lists.held c.args.sources.now.lists.now) c.args.sources.now.after c.in_ok-plan_each_list.ensures.placed).0

pub returns-clause-free : goal.returns-clause-free
returns-clause-free g c = λ known. c.in_ok-plan_each_list.ensures.free (c.in_ok-made.ensures.known (place_of c.args.sources.now.known.now) (known, tt))
