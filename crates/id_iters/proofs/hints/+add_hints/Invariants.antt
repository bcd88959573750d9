use Rattle.std.proofs.Common.{◌≤◌, take}
use Rattle.std.specs.List.{flat_map}
use Rattle.id_iters.specs.Fitting.{Hinted, leaves_of, leaves_of_ahead}
use Rattle.id_iters.proofs.hints.+add_hints.Given as goal

abbrev pub invariant-add_parts-parts : goal.invariant-add_parts-parts
invariant-add_parts-parts g l = record {
  hinted : Hinted (g.T.Lists.held l.lists) l.after (flat_map leaves_of (take l.part-index l.parts)) l.fn.hints.items l.hints.items;
  counts : l.fn.steps ≤ l.steps;
}

abbrev pub invariant-add_union-parts : goal.invariant-add_union-parts
invariant-add_union-parts g l = record {
  hinted : Hinted (g.T.Lists.held l.lists) l.after (flat_map leaves_of_ahead (take l.part-index l.parts)) l.fn.hints.items l.hints.items;
  counts : l.fn.steps ≤ l.steps;
}
