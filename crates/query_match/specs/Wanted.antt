-- What a part of a query asks of the words of one field.
use Rattle.std.specs.Prelude.{List, Bool}
use Rattle.ft_meaning.specs.Holds.{has_prefix, has_phrase}
use Rattle.ft_meaning.specs.Meaning.{has_word}
use Rattle.query_match.specs.declared.words.Wanted.{Wanted}
use Rattle.query_match.specs.declared.words.Wanted.TheVariants.{Word, Prefix, Phrase}
use Rattle.token_text.specs.declared.token.Token.{Token}

-- whether the tokens of a field have it
abbrev pub is_met : Wanted → List Token → Bool
is_met (Word text) found = has_word text.now found
is_met (Prefix text) found = has_prefix text.now found
is_met (Phrase words slop in_order) found = has_phrase words.now slop in_order found
