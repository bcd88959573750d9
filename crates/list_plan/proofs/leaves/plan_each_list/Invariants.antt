use Rattle.std.proofs.Common.{◌≡◌, ◌≤◌, ◌+◌, map}
use Rattle.id_iters.specs.Leaves.{list_has}
use Rattle.id_iters.specs.declared.list_name.ListName.{ListName}
use Rattle.list_plan.specs.Known.{place_of}
use Rattle.list_plan.specs.Plans.{AllReady, PartsKnown, PartsOpen, ids_of}
use Rattle.list_plan.specs.declared.size.Planned.{Planned}
use Rattle.list_plan.proofs.leaves.plan_each_list.Given as goal

abbrev pub invariant-lists : goal.invariant-lists
invariant-lists g l = record {
  set : map (λ (planned : Planned). ids_of (g.T.Lists.held l.fn.sources.lists.now) planned) l.plans.items
      ≡ map (λ (name : ListName). list_has (g.T.Lists.held l.fn.sources.lists.now) name l.fn.wanted.fields.now l.fn.wanted.low l.fn.wanted.high) l.yielded;
  ready : AllReady (g.T.Lists.held l.fn.sources.lists.now) l.plans.items (l.fn.sources.after + 1);
  placed : PartsOpen (g.T.Lists.held l.fn.sources.lists.now) l.fn.sources.after l.plans.items;
  free : PartsKnown (place_of l.fn.sources.known.now) l.plans.items → l.steps ≡ l.initial.steps;
  counts : l.initial.steps ≤ l.steps;
}
