use Rattle.std.proofs.Common.{◌≡◌, map, take}
use Rattle.token_text.specs.declared.token.Token.{Token}
use Rattle.query_parse.proofs.atoms.words_of.Given as goal

-- the words of the tokens so far
abbrev pub invariant-loop-i : goal.invariant-loop-i
invariant-loop-i l = l.words.items ≡ map (λ (token : Token). token.word) (take l.i l.found)
