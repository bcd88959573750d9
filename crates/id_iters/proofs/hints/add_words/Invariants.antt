use Rattle.std.proofs.Common.{◌≤◌, take}
use Rattle.id_iters.specs.Fitting.{Hinted}
use Rattle.id_iters.proofs.hints.add_words.Given as goal

abbrev pub invariant-words : goal.invariant-words
invariant-words g l = record {
  hinted : Hinted (g.T.Lists.held l.lists) l.after (take l.word-index l.words) l.fn.hints.items l.hints.items;
  counts : l.fn.steps ≤ l.steps;
}
