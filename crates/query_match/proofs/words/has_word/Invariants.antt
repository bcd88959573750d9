use Rattle.std.proofs.Common.{◌≡◌, false, take}
use Rattle.ft_meaning.specs.Meaning.{has_word}
use Rattle.query_match.proofs.words.has_word.Given as goal

-- none of the tokens so far is the word
abbrev pub invariant-loop-i : goal.invariant-loop-i
invariant-loop-i l = has_word l.text (take l.i l.found) ≡ false
