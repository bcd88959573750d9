-- What one token more says of those that are looked through from the front.
use Rattle.std.proofs.Common.{◌≡◌, ℕ, zero, suc, ◌+◌, Bool, true, false, List, [], ◌∷◌, ◌++◌, take, Some, refl, ap, ◌∙◌, inl, inr, map, filter, if◌then◌else◌}
use Rattle.std.specs.List.{list_any, slice_get}
use Rattle.std.specs.Str.{bytes_eq}
use Rattle.std.proofs.lemmas.Bool.{cases_Bool}
use Rattle.std.proofs.lemmas.List.{map-append}
use Rattle.std.proofs.lemmas.List.Elements.{filter-append}
use Rattle.std.proofs.lemmas.List.Folds.{list_any-append}
use Rattle.ft_meaning.specs.Holds.{places_of}
use Rattle.token_text.specs.declared.token.Token.{Token}
use Rattle.token_text.proofs.StepLaws.{taken-next}

-- a token that does not pass leaves none so far
pub none-next : (test : Token → Bool) (found : List Token) (i : ℕ) (token : Token) → slice_get found i ≡ Some token
    → list_any test (take i found) ≡ false → test token ≡ false → list_any test (take (i + 1) found) ≡ false
none-next test found i token here none fails =
    rw (taken-next found i token here, list_any-append test (take i found) (token ∷ []), none, fails) refl

-- one that passes is among them all
pub some-here : (test : Token → Bool) (found : List Token) (i : ℕ) (token : Token) → slice_get found i ≡ Some token → test token ≡ true → list_any test found ≡ true
some-here test [] i token here passes = absurd (let no : ⊥ = cc in no)
some-here test (first ∷ found) zero token here passes =
    let same : first ≡ token = cc in
    rw (same, passes) refl
some-here test (first ∷ found) (suc i) token here passes =
    elim (cases_Bool (test first)) [
      | inl y ↦ rw y refl
      | inr n ↦ rw n (some-here test found i token here passes)
    ]

-- the places of a word, with the token at an index
pub places-next : (found : List Token) (word : List ℕ) (i : ℕ) (token : Token) → slice_get found i ≡ Some token
    → places_of (take (i + 1) found) word ≡ places_of (take i found) word ++ (if bytes_eq word token.word then token.place ∷ [] else [])
places-next found word i token here =
    let front : List Token = take i found in
    ap (λ (tokens : List Token). places_of tokens word) (taken-next found i token here)
    ∙ (ap (map (λ (one : Token). one.place)) (filter-append (λ (one : Token). bytes_eq word one.word) front (token ∷ []))
    ∙ (map-append (λ (one : Token). one.place) (filter (λ (one : Token). bytes_eq word one.word) front) (filter (λ (one : Token). bytes_eq word one.word) (token ∷ []))
    ∙ ap (λ (last : List ℕ). places_of front word ++ last) (elim (cases_Bool (bytes_eq word token.word)) [
      | inl y ↦ rw y refl
      | inr n ↦ rw n refl
    ])))
