use Rattle.std.proofs.Common.{◌≡◌, ◌≤◌, ◌+◌, take}
use Rattle.id_iters.specs.Places.{LeavesReady}
use Rattle.list_plan.specs.Known.{place_of}
use Rattle.list_plan.specs.Plans.{AllKnown, AllOpen}
use Rattle.query_plan.specs.Phrases.{AreOfWords}
use Rattle.query_plan.proofs.phrases.add_leaves.Given as goal

abbrev pub invariant-words : goal.invariant-words
invariant-words g l = record {
  words : AreOfWords (take l.word-index l.fn.phrase.words.now) l.made.leaves l.made.order;
  ready : LeavesReady (g.T.Lists.held l.fn.sources.lists.now) l.made.leaves (l.fn.sources.after + 1);
  placed : AllOpen (g.T.Lists.held l.fn.sources.lists.now) l.fn.sources.after l.made.leaves;
  free : AllKnown (place_of l.fn.sources.known.now) l.made.leaves → l.steps ≡ l.initial.steps;
  counts : l.initial.steps ≤ l.steps;
}
