use Rattle.std.proofs.Common.{◌≡◌, ℕ, List, ◌++◌, map, take}
use Rattle.ft_index.specs.Collected.{AreMet, codes_of}
use Rattle.ft_index.specs.Entries.{codes_among, occurrence}
use Rattle.ft_index.proofs.words.note_all.Given as goal

-- the tokens so far were noted
abbrev pub invariant-loop-i : goal.invariant-loop-i
invariant-loop-i l =
    ((word : List ℕ) → codes_of l.found.entries word ≡ codes_of l.fn.found.entries word ++ codes_among word (map (occurrence l.number) (take l.i l.tokens)))
    × (AreMet l.fn.found.entries → AreMet l.found.entries)
