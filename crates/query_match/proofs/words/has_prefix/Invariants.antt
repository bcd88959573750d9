use Rattle.std.proofs.Common.{◌≡◌, false, take}
use Rattle.ft_meaning.specs.Holds.{has_prefix}
use Rattle.query_match.proofs.words.has_prefix.Given as goal

-- none of the words so far begins so
abbrev pub invariant-loop-i : goal.invariant-loop-i
invariant-loop-i l = has_prefix l.text (take l.i l.found) ≡ false
