use Rattle.std.proofs.Common.{◌≡◌, ◌++◌, length, map}
use Rattle.ft_index.specs.Picturing.{shown, words_named}
use Rattle.ft_index.proofs.scanning.picture_words.Given as goal

-- the words that are left are the only ones without a picture
abbrev pub invariant-rows : goal.invariant-rows
invariant-rows l = map shown l.all ++ words_named l.walk ≡ map shown l.fn.all ++ words_named l.terms

abbrev pub decreases-rows : goal.decreases-rows
decreases-rows l = length l.walk
