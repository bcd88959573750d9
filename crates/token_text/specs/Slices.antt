-- The tokens of a text as parts of one buffer.
use Rattle.std.specs.Prelude.{ℕ, suc, ◌-◌, ◌≤◌, List, [], ◌∷◌, take, drop}
use Rattle.token_text.specs.declared.part.Part.{Part}
use Rattle.token_text.specs.declared.token.Token.{Token}

-- the bytes from a place up to another
abbrev pub between : List ℕ → ℕ → ℕ → List ℕ
between bytes from to = take (to - from) (drop from bytes)

-- the tokens from a place on, whose words are these parts of a buffer
abbrev pub tokens_from : List ℕ → ℕ → List Part → List Token
tokens_from bytes place [] = []
tokens_from bytes place (part ∷ parts) =
    record { place = place; word = between bytes part.from part.to } ∷ tokens_from bytes (suc place) parts

-- the tokens whose words are these parts of a buffer
abbrev pub tokens_in : List ℕ → List Part → List Token
tokens_in bytes parts = tokens_from bytes 1 parts

-- each part begins before it ends, and ends within so many bytes
abbrev pub LieWithin : ℕ → List Part → Type 0
LieWithin size [] = Unit {0}
LieWithin size (part ∷ parts) = (part.from ≤ part.to) × (part.to ≤ size) × LieWithin size parts
