use Rattle.std.proofs.Common.{◌≡◌, ◌≤◌, ◌+◌, map}
use Rattle.query_plan.specs.Asked.{asked_of_each}
use Rattle.list_plan.specs.Known.{place_of}
use Rattle.list_plan.specs.Plans.{AllReady, PartsKnown, PartsOpen, ids_of}
use Rattle.query_plan.specs.Sought.{section_of}
use Rattle.list_plan.specs.declared.size.Planned.{Planned}
use Rattle.query_plan.proofs.ranges.plan_each_range.Given as goal

abbrev pub invariant-places : goal.invariant-places
invariant-places g l = record {
  set : map (λ (planned : Planned). ids_of (g.T.Lists.held l.fn.sources.lists.now) planned) l.plans.items
      ≡ section_of (asked_of_each (g.T.Lists.held l.fn.sources.lists.now) l.fn.field l.fn.low l.fn.high ((g.T.Lists.named l.fn.sources.lists.now).lows l.fn.field)) l.fn.span.from l.place;
  ready : AllReady (g.T.Lists.held l.fn.sources.lists.now) l.plans.items (l.fn.sources.after + 1);
  placed : PartsOpen (g.T.Lists.held l.fn.sources.lists.now) l.fn.sources.after l.plans.items;
  free : PartsKnown (place_of l.fn.sources.known.now) l.plans.items → l.steps ≡ l.initial.steps;
  counts : l.initial.steps ≤ l.steps;
}
