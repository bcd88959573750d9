use Rattle.std.proofs.Common.{◌≡◌, ℕ, List, ◌++◌, drop}
use Rattle.ft_index.specs.Collected.{AreMet, codes_of, occurrences_in}
use Rattle.ft_index.specs.Entries.{codes_among}
use Rattle.ft_index.proofs.words.collected.Given as goal

-- what was noted, and what the texts that are left will give, are what the texts have
abbrev pub invariant-loop-number : goal.invariant-loop-number
invariant-loop-number l =
    ((word : List ℕ) → codes_among word (occurrences_in 0 l.texts)
    ≡ codes_of l.found.entries word ++ codes_among word (occurrences_in l.number (drop l.number l.texts)))
    × AreMet l.found.entries
