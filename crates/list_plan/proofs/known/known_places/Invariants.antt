use Rattle.std.proofs.Common.{take}
use Rattle.list_plan.specs.Known.{KnownFit, KnowsAll, place_of}
use Rattle.list_plan.proofs.known.known_places.Given as goal

abbrev pub invariant-hints : goal.invariant-hints
invariant-hints g l = record {
  fit : KnownFit (g.T.Lists.held l.lists) l.after (place_of l.known);
  all : KnowsAll (g.T.Lists.held l.lists) l.after (place_of l.known) (take l.hint-index l.hints);
}
