use Rattle.std.proofs.Common.{◌≡◌, map, take}
use Rattle.id_iters.specs.Entries.{codes_at}
use Rattle.id_iters.specs.Leaves.{word_entries}
use Rattle.id_iters.specs.declared.leaf.Leaf.{Leaf}
use Rattle.id_iters.proofs.phrase.codes_of.Given as goal

abbrev pub invariant-words : goal.invariant-words
invariant-words g l = l.codes ≡ map (λ (word : Leaf). codes_at (word_entries (g.T.Lists.held l.lists) word.list) l.id) (take l.word-index l.words)
