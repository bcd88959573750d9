-- How a reader that goes from run to run of a text comes to its tokens.
use Rattle.std.proofs.Common.{◌≡◌, ℕ, ◌+◌, List, [], ◌∷◌, ◌++◌, map, length, refl, sym, ap, ◌∙◌, append_assoc, length-append, add-zero, add-one, arith}
use Rattle.token_text.specs.declared.token.Token.{Token}
use Rattle.token_text.specs.Tokens.{units, split, before, runs, lowered, numbered, tokens}

-- lowering leaves empty what is empty
map-before : (run : List ℕ) (others : List (List ℕ)) → map lowered (before run others) ≡ before (lowered run) (map lowered others)
map-before [] others = refl
map-before (b ∷ run) others = refl

-- a run that ends is one word or none, and the words behind it are numbered from the next place
numbered-before : (stops : List (List ℕ)) (place : ℕ) (run : List ℕ) (others : List (List ℕ))
    → numbered stops place (before run others)
    ≡ numbered stops place (before run []) ++ numbered stops (place + length (numbered stops place (before run []))) others
numbered-before stops place [] others = grind (arith, add-zero)
numbered-before stops place (b ∷ run) others = grind (arith, add-zero, add-one)

-- the tokens from a place on, where a text's runs are still to come
unfoldable pub coming : List (List ℕ) → ℕ → List ℕ → List Token
coming stops place text = numbered stops place (map lowered (runs text))

-- at the front of the text all its tokens are to come
pub coming-start : (stops : List (List ℕ)) (text : List ℕ) → tokens text stops ≡ coming stops 1 text
unfolding coming
coming-start stops text = refl

-- at its end none
pub coming-end : (stops : List (List ℕ)) (place : ℕ) → coming stops place [] ≡ []
unfolding coming
coming-end stops place = refl

-- the run at the front, and those behind it
pub coming-next : (stops : List (List ℕ)) (place : ℕ) (text word rest : List ℕ) → lowered (split (units text)).0 ≡ word → (split (units text)).1 ≡ runs rest
    → coming stops place text ≡ numbered stops place (before word []) ++ coming stops (place + length (numbered stops place (before word []))) rest
unfolding coming
coming-next stops place text word rest here behind =
    ap (numbered stops place) (map-before (split (units text)).0 (split (units text)).1)
    ∙ ap (λ (all : List (List ℕ)). numbered stops place (before (lowered (split (units text)).0) (map lowered all))) behind
    ∙ ap (λ (run : List ℕ). numbered stops place (before run (map lowered (runs rest)))) here
    ∙ numbered-before stops place word (map lowered (runs rest))

-- the run's token, if it is one, goes to those found
pub coming-found : (stops : List (List ℕ)) (all found new : List Token) (place next : ℕ) (text word rest : List ℕ)
    → all ≡ found ++ coming stops place text
    → lowered (split (units text)).0 ≡ word → (split (units text)).1 ≡ runs rest
    → new ≡ found ++ numbered stops place (before word [])
    → place ≡ length found + 1 → next ≡ length new + 1
    → all ≡ new ++ coming stops next rest
coming-found stops all found new place next text word rest so_far here behind same at after =
    let more : List Token = numbered stops place (before word []) in
    let counted : length new ≡ length found + length more = ap length same ∙ length-append found more in
    let on : place + length more ≡ next = omega arith in
    so_far
    ∙ ap (λ (rest : List Token). found ++ rest) (coming-next stops place text word rest here behind)
    ∙ sym (append_assoc found more (coming stops (place + length more) rest))
    ∙ ap (λ (front : List Token). front ++ coming stops (place + length more) rest) (sym same)
    ∙ ap (λ (n : ℕ). new ++ coming stops n rest) on
