use Rattle.std.proofs.Common.{◌≡◌, map, take}
use Rattle.ft_meaning.specs.Holds.{places_of}
use Rattle.query_match.proofs.words.has_phrase.Given as goal

-- the lists are those of the words so far
abbrev pub invariant-words : goal.invariant-words
invariant-words l = l.lists ≡ map (places_of l.found) (take l.word-index l.words)
