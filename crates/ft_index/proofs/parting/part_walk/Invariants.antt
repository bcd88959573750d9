use Rattle.std.proofs.Common.{◌≡◌, ◌++◌, length}
use Rattle.ft_index.specs.Parting.{ahead}
use Rattle.ft_index.specs.Picturing.{NamedLists, words_named}
use Rattle.ft_index.proofs.parting.part_walk.Given as goal

-- the words that are left are the only ones that the part did not take
abbrev pub invariant-rows : goal.invariant-rows
invariant-rows g l = (rest : NamedLists) → ahead l.part (words_named l.walk ++ rest) ≡ ahead l.fn.part (words_named l.fn.walk ++ rest)

abbrev pub decreases-rows : goal.decreases-rows
decreases-rows g l = length l.walk
