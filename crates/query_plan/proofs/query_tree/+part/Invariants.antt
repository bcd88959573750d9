use Rattle.std.proofs.Common.{◌≡◌, ◌≤◌, ◌+◌, take}
use Rattle.list_plan.specs.Known.{place_of}
use Rattle.list_plan.specs.Parts.{AllPartsKnown, AllPartsOpen, AllPartsReady}
use Rattle.query_merge.specs.Merged.{marked}
use Rattle.query_plan.specs.Plans.{AllTell}
use Rattle.query_plan.proofs.query_tree.+part.Given as goal

abbrev pub invariant-plan_each-queries : goal.invariant-plan_each-queries
invariant-plan_each-queries g l = record {
  set : AllTell l.fn.sources.def.now (g.T.Lists.held l.fn.sources.lists.now) (g.T.Lists.named l.fn.sources.lists.now) (marked (take l.at l.fn.queries) l.fn.marks) l.parts.items;
  ready : AllPartsReady (g.T.Lists.held l.fn.sources.lists.now) l.parts.items (l.fn.sources.after + 1);
  placed : AllPartsOpen (g.T.Lists.held l.fn.sources.lists.now) l.fn.sources.after l.parts.items;
  free : AllPartsKnown (place_of l.fn.sources.known.now) l.parts.items → l.steps ≡ l.initial.steps;
  counts : l.initial.steps ≤ l.steps;
}
