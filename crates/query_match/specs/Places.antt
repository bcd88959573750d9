-- What is true of the tokens of one text.
use Rattle.std.specs.Prelude.{◌≡◌, List, map, true}
use Rattle.phrase_match.specs.Phrase.{rises}
use Rattle.token_text.specs.declared.token.Token.{Token}

-- each token stands behind those before it
abbrev pub PlacesRise : List Token → Type 0
PlacesRise found = rises (map (λ (token : Token). token.place) found) ≡ true
