use Rattle.std.proofs.Common.{◌≡◌, take}
use Rattle.ft_meaning.specs.Holds.{places_of}
use Rattle.query_match.proofs.words.places_of.Given as goal

-- the places among the tokens so far
abbrev pub invariant-loop-i : goal.invariant-loop-i
invariant-loop-i l = l.places ≡ places_of (take l.i l.found) l.word
