-- The tokens whose words are parts of a buffer.
use Rattle.std.proofs.Common.{◌≡◌, ℕ, zero, suc, ◌+◌, ◌≤◌, ◌<◌, List, [], ◌∷◌, ◌++◌, length, take, drop, get_or, Some, refl, ap, sym, ◌∙◌, arith}
use Rattle.std.specs.List.{slice_get}
use Rattle.std.proofs.lemmas.List.{take-take}
use Rattle.std.proofs.lemmas.Slice.{between_is}
use Rattle.token_text.specs.declared.part.Part.{Part}
use Rattle.token_text.specs.declared.token.Token.{Token}
use Rattle.token_text.specs.Slices.{LieWithin, between, tokens_from}

pub length-tokens : (bytes : List ℕ) (place : ℕ) (parts : List Part) → length (tokens_from bytes place parts) ≡ length parts
length-tokens bytes place [] = refl
length-tokens bytes place (part ∷ parts) = ap suc (length-tokens bytes (suc place) parts)

-- a token more
pub tokens-pushed : (bytes : List ℕ) (place : ℕ) (parts : List Part) (part : Part) (n : ℕ) → n ≡ place + length parts → tokens_from bytes place (parts ++ part ∷ [])
    ≡ tokens_from bytes place parts ++ record { place = n; word = between bytes part.from part.to } ∷ []
tokens-pushed bytes place [] part n is = let here : place ≡ n = omega arith in rw here refl
tokens-pushed bytes place (first ∷ parts) part n is =
    ap (λ (rest : List Token). record { place = place; word = between bytes first.from first.to } ∷ rest) (tokens-pushed bytes (suc place) parts part n (omega arith))

pub within-pushed : (size : ℕ) (parts : List Part) (part : Part) → LieWithin size parts → part.from ≤ part.to → part.to ≤ size → LieWithin size (parts ++ part ∷ [])
within-pushed size [] part lie order inside = (order, inside, tt)
within-pushed size (first ∷ parts) part lie order inside = (lie.0, lie.1, within-pushed size parts part lie.2 order inside)

-- what lies within some bytes lies within more
pub within-more : (size more : ℕ) (parts : List Part) → size ≤ more → LieWithin size parts → LieWithin more parts
within-more size more [] less lie = tt
within-more size more (part ∷ parts) less lie = (lie.0, (let inside = lie.1 in omega arith), within-more size more parts less lie.2)

-- the bytes between two places are told by those up to the second
pub between-front : (bytes new : List ℕ) (size from to : ℕ) → take size new ≡ take size bytes → from ≤ to → to ≤ size → between new from to ≡ between bytes from to
between-front bytes new size from to same order inside =
    let front : take to new ≡ take to bytes = sym (take-take to size new inside) ∙ ap (take to) same ∙ take-take to size bytes inside in
    between_is new from to ∙ ap (drop from) front ∙ sym (between_is bytes from to)

-- tokens within the first bytes are told by those
pub tokens-front : (bytes new : List ℕ) (place size : ℕ) (parts : List Part) → take size new ≡ take size bytes → LieWithin size parts
    → tokens_from new place parts ≡ tokens_from bytes place parts
tokens-front bytes new place size [] same lie = refl
tokens-front bytes new place size (part ∷ parts) same lie =
    rw (between-front bytes new size part.from part.to same lie.0 lie.1, tokens-front bytes new (suc place) size parts same lie.2) refl

-- the token at an index
pub token-at : (bytes : List ℕ) (place : ℕ) (parts : List Part) (i n : ℕ) (none : Part) → n ≡ place + i → i < length parts → slice_get (tokens_from bytes place parts) i
    ≡ Some (record { place = n; word = between bytes (get_or parts i none).from (get_or parts i none).to })
token-at bytes place [] i n none is within = absurd (let no : ⊥ = omega arith in no)
token-at bytes place (part ∷ parts) zero n none is within = let here : place ≡ n = omega arith in rw here refl
token-at bytes place (part ∷ parts) (suc i) n none is within = token-at bytes (suc place) parts i n none (omega arith) (omega arith)

pub bounds-at : (size : ℕ) (parts : List Part) (i : ℕ) (none : Part) → LieWithin size parts → i < length parts → ((get_or parts i none).from ≤ (get_or parts i none).to) × ((get_or parts i none).to ≤ size)
bounds-at size [] i none lie within = absurd (let no : ⊥ = omega arith in no)
bounds-at size (part ∷ parts) zero none lie within = (lie.0, lie.1)
bounds-at size (part ∷ parts) (suc i) none lie within = bounds-at size parts i none lie.2 (omega arith)
