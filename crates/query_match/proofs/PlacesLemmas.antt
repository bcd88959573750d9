-- The places of words among the tokens of a field meet the conditions of `within`.
use Rattle.std.proofs.Common.{◌≡◌, inl, inr, ℕ, zero, suc, ◌<◌, Bool, true, false, cond, ◌||◌, List, [], ◌∷◌, length, get_or, Option, Some, None, refl, sym, ap, ◌∙◌, subst, filter, map, arith}
use Rattle.std.specs.List.{list_all, list_any}
use Rattle.std.specs.Str.{bytes_eq}
use Rattle.std.proofs.lemmas.Bool.{false≢true, and_from, and_parts, lt-ltb, false_from_ne_true}
use Rattle.std.proofs.lemmas.List.{get_or-map, get_or_default, length-map}
use Rattle.std.proofs.lemmas.Slice.Eq.{bytes_eq-Decides}
use lib.Dec.{ltb}
use Rattle.ft_base.specs.Hash.{get_field}
use Rattle.ft_base.specs.declared.definition.Field.{Field}
use Rattle.ft_base.specs.declared.definition.IndexDef.{IndexDef}
use Rattle.ft_base.specs.Docs.{Doc}
use Rattle.ft_meaning.specs.Holds.{places_of, has_phrase}
use Rattle.ft_meaning.specs.Meaning.{has_words, value_tokens, field_tokens}
use Rattle.phrase_match.specs.Phrase.{has, rises, some_choice, fits}
use Rattle.phrase_match.specs.Places.{AllRise, AreEqualOrApart, AllEqualOrApart}
use Rattle.phrase_match.proofs.PlacesLaws.{has_cases, has_none, above_first}
use Rattle.query_match.specs.Places.{PlacesRise}
use Rattle.token_text.specs.Tokens.{is_stop, lowered, runs, numbered}
use Rattle.token_text.specs.declared.token.Token.{Token}

abbrev place_of : Token → ℕ
place_of token = token.place

abbrev token_at : ℕ → List ℕ → Token
token_at place word = record { place = place; word = word }

-- the tokens of a word
abbrev with_word : List ℕ → List Token → List Token
with_word word found = filter (λ (token : Token). bytes_eq word token.word) found

-- ---- the tokens of a text

numbered-above : (stops : List (List ℕ)) (low place : ℕ) (words : List (List ℕ)) → low < place
    → list_all (ltb low) (map place_of (numbered stops place words)) ≡ true
numbered-above stops low place [] lt = refl
numbered-above stops low place (word ∷ words) lt =
    go (is_stop stops word) (numbered-above stops low place words lt) (numbered-above stops low (suc place) words (omega (arith, lt)))
  where
    go : (b : Bool) → list_all (ltb low) (map place_of (numbered stops place words)) ≡ true
        → list_all (ltb low) (map place_of (numbered stops (suc place) words)) ≡ true
        → list_all (ltb low) (map place_of (cond b (numbered stops place words) (token_at place word ∷ numbered stops (suc place) words))) ≡ true
    go true here next = here
    go false here next = and_from (ltb low place) (list_all (ltb low) (map place_of (numbered stops (suc place) words))) (lt-ltb low place lt) next

numbered-rise : (stops : List (List ℕ)) (place : ℕ) (words : List (List ℕ)) → PlacesRise (numbered stops place words)
numbered-rise stops place [] = refl
numbered-rise stops place (word ∷ words) =
    go (is_stop stops word) (numbered-rise stops place words) (numbered-rise stops (suc place) words)
  where
    go : (b : Bool) → PlacesRise (numbered stops place words) → PlacesRise (numbered stops (suc place) words)
        → PlacesRise (cond b (numbered stops place words) (token_at place word ∷ numbered stops (suc place) words))
    go true here next = here
    go false here next =
        and_from (list_all (ltb place) (map place_of (numbered stops (suc place) words))) (rises (map place_of (numbered stops (suc place) words)))
        (numbered-above stops place (suc place) words (omega arith)) next

value-rise : (stops : List (List ℕ)) (value : Option (List ℕ)) → PlacesRise (value_tokens stops value)
value-rise stops None = refl
value-rise stops (Some value) = numbered-rise stops 1 (map lowered (runs value))

pub field_tokens-rise : (def : IndexDef) (doc : Doc) (field : Field) → PlacesRise (field_tokens def doc field)
field_tokens-rise def doc field = go (has_words field)
  where
    go : (b : Bool) → PlacesRise (cond b (value_tokens def.stops.words (get_field doc.hash field.name)) [])
    go true = value-rise def.stops.words (get_field doc.hash field.name)
    go false = refl

-- ---- the places of a word

-- what is so of each place is so of those of a word
all_places : (q : ℕ → Bool) (found : List Token) (word : List ℕ) → list_all q (map place_of found) ≡ true → list_all q (places_of found word) ≡ true
all_places q [] word h = refl
all_places q (token ∷ found) word h =
    let parts = and_parts (q token.place) (list_all q (map place_of found)) h in
    go (bytes_eq word token.word) parts.0 (all_places q found word parts.1)
  where
    go : (b : Bool) → q token.place ≡ true → list_all q (places_of found word) ≡ true
        → list_all q (map place_of (cond b (token ∷ with_word word found) (with_word word found))) ≡ true
    go true here behind = and_from (q token.place) (list_all q (places_of found word)) here behind
    go false here behind = behind

places_of-rise : (found : List Token) (word : List ℕ) → PlacesRise found → rises (places_of found word) ≡ true
places_of-rise [] word up = refl
places_of-rise (token ∷ found) word up =
    let parts = and_parts (list_all (ltb token.place) (map place_of found)) (rises (map place_of found)) up in
    go (bytes_eq word token.word) (all_places (ltb token.place) found word parts.0) (places_of-rise found word parts.1)
  where
    go : (b : Bool) → list_all (ltb token.place) (places_of found word) ≡ true → rises (places_of found word) ≡ true
        → rises (map place_of (cond b (token ∷ with_word word found) (with_word word found))) ≡ true
    go true above behind = and_from (list_all (ltb token.place) (places_of found word)) (rises (places_of found word)) above behind
    go false above behind = behind

-- two words that are not equal share no place
places_of-apart : (found : List Token) (word other : List ℕ) → PlacesRise found → (word ≡ other → ⊥) → (place : ℕ)
    → has (places_of found word) place ≡ true → has (places_of found other) place ≡ false
places_of-apart [] word other up differ place h = refl
places_of-apart (token ∷ found) word other up differ place h =
    let parts = and_parts (list_all (ltb token.place) (map place_of found)) (rises (map place_of found)) up in
    go (bytes_eq word token.word) refl (bytes_eq other token.word) refl
    (λ w e. above_first token.place place (places_of found w) (all_places (ltb token.place) found w parts.0) e)
    (λ e. places_of-apart found word other parts.1 differ place e) h
  where
    go : (a : Bool) → bytes_eq word token.word ≡ a → (b : Bool) → bytes_eq other token.word ≡ b
        → ((w : List ℕ) → has (places_of found w) place ≡ true → token.place < place)
        → (has (places_of found word) place ≡ true → has (places_of found other) place ≡ false)
        → has (map place_of (cond a (token ∷ with_word word found) (with_word word found))) place ≡ true
        → has (map place_of (cond b (token ∷ with_word other found) (with_word other found))) place ≡ false
    go true e true k above again here = absurd (differ ((bytes_eq-Decides word token.word).0 e ∙ sym ((bytes_eq-Decides other token.word).0 k)))
    go true e false k above again here =
        has_cases token.place place (places_of found word) here
        (λ same. false_from_ne_true (has (places_of found other) place) (λ there. omega (arith, same, above other there)))
        again
    go false e true k above again here =
        has_none token.place place (places_of found other) (λ same. omega (arith, same, above word here)) (again here)
    go false e false k above again here = again here

-- ---- the words of a phrase

pub all_places_rise : (found : List Token) (words : List (List ℕ)) → PlacesRise found → AllRise (map (places_of found) words)
all_places_rise found words up k d lt =
    let within : k < length words = omega (arith, lt, length-map words (places_of found)) in
    ap rises (get_or-map (places_of found) words k [] d within) ∙ places_of-rise found (get_or words k []) up

places_of-equal_or_apart : (found : List Token) (word other : List ℕ) → PlacesRise found → AreEqualOrApart (places_of found word) (places_of found other)
places_of-equal_or_apart found word other up = go (bytes_eq word other) refl
  where
    go : (b : Bool) → bytes_eq word other ≡ b → AreEqualOrApart (places_of found word) (places_of found other)
    go true e = inl (ap (places_of found) ((bytes_eq-Decides word other).0 e))
    go false e = inr (places_of-apart found word other up (λ same. false≢true (sym e ∙ (bytes_eq-Decides word other).1 same)))

pub all_places_apart : (found : List Token) (words : List (List ℕ)) → PlacesRise found → AllEqualOrApart (map (places_of found) words)
all_places_apart found words up i j d lt within =
    let one = get_or-map (places_of found) words i [] d (omega (arith, lt, within, length-map words (places_of found))) in
    let other = get_or-map (places_of found) words j [] d (omega (arith, within, length-map words (places_of found))) in
    subst (λ (xs : List ℕ). AreEqualOrApart (get_or (map (places_of found) words) i d) xs) (sym other)
    (subst (λ (xs : List ℕ). AreEqualOrApart xs (places_of found (get_or words j []))) (sym one)
    (places_of-equal_or_apart found (get_or words i []) (get_or words j []) up))

-- ---- a word that is not there

none_of : (test : ℕ → Bool) (places : List ℕ) → ((place : ℕ) → test place ≡ false) → list_any test places ≡ false
none_of test [] none = refl
none_of test (place ∷ places) none = ap (λ (b : Bool). b || list_any test places) (none place) ∙ none_of test places none

-- no choice is left where a list has no place
some_choice-none : (test : List ℕ → Bool) (found : List Token) (words : List (List ℕ)) (i : ℕ) → i < length words
    → places_of found (get_or words i []) ≡ [] → some_choice test (map (places_of found) words) ≡ false
some_choice-none test found [] i lt e = absurd (omega (arith, lt))
some_choice-none test found (word ∷ words) zero lt e =
    ap (λ (places : List ℕ). list_any (λ place. some_choice (λ choice. test (place ∷ choice)) (map (places_of found) words)) places) e
some_choice-none test found (word ∷ words) (suc i) lt e =
    none_of (λ place. some_choice (λ choice. test (place ∷ choice)) (map (places_of found) words)) (places_of found word)
    (λ place. some_choice-none (λ choice. test (place ∷ choice)) found words i (omega (arith, lt)) e)

nil : (places : List ℕ) → length places ≡ 0 → places ≡ []
nil [] none = refl
nil (place ∷ places) none = absurd (omega (arith, none))

pub within-none : (found : List Token) (words : List (List ℕ)) (i : ℕ) (word places : List ℕ) (slop : Option ℕ) (in_order : Bool) → i < length words
    → word ≡ get_or words i word → places ≡ places_of found word → length places ≡ 0 → false ≡ has_phrase words slop in_order found
within-none found words i word places slop in_order lt is same none =
    sym (some_choice-none (fits slop in_order) found words i lt
    (ap (places_of found) (get_or_default words i [] word lt ∙ sym is) ∙ (sym same ∙ nil places none)))
