-- The codes of a word in a document: they rise, no two words share one, and each is of a field that has the word.
use Rattle.std.proofs.Common.{◌≡◌, ◌≢◌, ℕ, zero, suc, ◌<◌, ◌≤◌, ◌+◌, ◌*◌, ◌^◌, Bool, true, false, cond, ◌&&◌, ◌||◌, eqb, List, [], ◌∷◌, ◌++◌, append-nil, map, filter, Some, slice_get, refl, sym, ap, ◌∙◌, subst, inl, inr, arith}
use Rattle.std.specs.List.{list_any, list_all}
use Rattle.std.specs.Str.{bytes_eq}
use Rattle.std.proofs.lemmas.Bool.{cases_Bool, and_from, and_parts, lt-ltb, false_from_ne_true}
use Rattle.std.proofs.lemmas.Bool.Decides.{nat_tests}
use Rattle.std.proofs.lemmas.List.{map-append}
use Rattle.std.proofs.lemmas.List.Elements.{filter-append}
use Rattle.std.proofs.lemmas.List.Folds.{list_any-append}
use Rattle.std.proofs.lemmas.Slice.Eq.{bytes_eq-Decides}
use lib.Dec.{ltb}
use Rattle.ft_base.specs.declared.definition.Field.{Field}
use Rattle.ft_base.specs.declared.definition.IndexDef.{IndexDef}
use Rattle.ft_base.specs.Docs.{Doc}
use Rattle.ft_meaning.specs.Holds.{places_of}
use Rattle.ft_meaning.specs.Meaning.{ValuesFit, field_tokens, has_word}
use Rattle.id_iters.specs.Entries.{field_of, place_of, places_in}
use Rattle.ft_index.specs.Entries.{codes, codes_among, occurrence, occurrences_from}
use Rattle.phrase_match.specs.Phrase.{has, rises}
use Rattle.phrase_match.proofs.PlacesLaws.{has_cases, has_none, above_first}
use Rattle.query_plan.proofs.AnyLaws.{any_from}
use Rattle.query_plan.proofs.TokenLaws.{AreUp, IsUp, up_from, field_tokens_up}
use Rattle.token_text.specs.declared.token.Token.{Token}

abbrev Found : Type 0
Found = List (List ℕ × ℕ)

abbrev code_in : List ℕ × ℕ → ℕ
code_in one = one.1

among-append : (word : List ℕ) (xs ys : Found) → codes_among word (xs ++ ys) ≡ codes_among word xs ++ codes_among word ys
among-append word xs ys =
    ap (map code_in) (filter-append (λ (one : List ℕ × ℕ). bytes_eq word one.0) xs ys) ∙ map-append _ _ _

-- ---- the field and the place of a code

code_field : (number place : ℕ) → place < 2 ^ 32 → field_of (number * 2 ^ 32 + place) ≡ number
code_field number place fits = omega arith

code_place : (number place : ℕ) → place < 2 ^ 32 → place_of (number * 2 ^ 32 + place) ≡ place
code_place number place fits = omega arith

-- ---- codes rise

codes_up : (base low next : ℕ) (tokens : List Token) (rest : List ℕ) → AreUp low (2 ^ 32) tokens → low ≤ 2 ^ 32 → base + 2 ^ 32 ≤ next → IsUp next rest
    → IsUp (base + low) (map (λ (token : Token). base + token.place) tokens ++ rest)
codes_up base low next [] rest up within above more = up_from next (base + low) rest more (omega (arith, within, above))
codes_up base low next (token ∷ tokens) rest up within above more = (
  omega (arith, up.0),
  up_from (base + (token.place + 1)) (base + token.place + 1) _
      (codes_up base (token.place + 1) next tokens rest up.2 (omega (arith, up.1)) above more) (omega arith),
)

codes_of_tokens : (number : ℕ) (tokens : List Token) → map code_in (map (occurrence number) tokens) ≡ map (λ (token : Token). number * 2 ^ 32 + token.place) tokens
codes_of_tokens number [] = refl
codes_of_tokens number (token ∷ tokens) = ap (λ rest. (number * 2 ^ 32 + token.place) ∷ rest) (codes_of_tokens number tokens)

pub occurrences_up : (def : IndexDef) (doc : Doc) (number : ℕ) (fields : List Field) → ValuesFit doc.hash
    → IsUp (number * 2 ^ 32) (map code_in (occurrences_from def doc number fields))
occurrences_up def doc number [] fit = tt
occurrences_up def doc number (field ∷ fields) fit =
    let more = codes_up (number * 2 ^ 32) 0 (suc number * 2 ^ 32) (field_tokens def doc field) (map code_in (occurrences_from def doc (suc number) fields))
    (field_tokens_up def doc field fit) (omega arith) (omega arith) (occurrences_up def doc (suc number) fields fit) in
    subst (IsUp (number * 2 ^ 32))
    (ap (λ xs. xs ++ map code_in (occurrences_from def doc (suc number) fields)) (sym (codes_of_tokens number (field_tokens def doc field)))
    ∙ sym (map-append _ _ _))
    (up_from (number * 2 ^ 32 + 0) (number * 2 ^ 32) _ more (omega arith))

above_all : (low n : ℕ) (ns : List ℕ) → n < low → IsUp low ns → list_all (ltb n) ns ≡ true
above_all low n [] less up = refl
above_all low n (m ∷ ns) less up =
    and_from (ltb n m) (list_all (ltb n) ns) (lt-ltb n m (omega (arith, less, up.0))) (above_all (m + 1) n ns (omega (arith, less, up.0)) up.1)

up_rises : (low : ℕ) (ns : List ℕ) → IsUp low ns → rises ns ≡ true
up_rises low [] up = refl
up_rises low (n ∷ ns) up = and_from (list_all (ltb n) ns) (rises ns) (above_all (n + 1) n ns (omega arith) up.1) (up_rises (n + 1) ns up.1)

-- what is so of each code is so of those of a word
among_all : (q : ℕ → Bool) (word : List ℕ) (found : Found) → list_all q (map code_in found) ≡ true → list_all q (codes_among word found) ≡ true
among_all q word [] h = refl
among_all q word (one ∷ found) h =
    let parts = and_parts (q one.1) (list_all q (map code_in found)) h in
    elim (cases_Bool (bytes_eq word one.0)) [
      | inl y ↦ rw y (and_from (q one.1) (list_all q (codes_among word found)) parts.0 (among_all q word found parts.1))
      | inr n ↦ rw n (among_all q word found parts.1)
    ]

pub among_rise : (word : List ℕ) (found : Found) → rises (map code_in found) ≡ true → rises (codes_among word found) ≡ true
among_rise word [] up = refl
among_rise word (one ∷ found) up =
    let parts = and_parts (list_all (ltb one.1) (map code_in found)) (rises (map code_in found)) up in
    elim (cases_Bool (bytes_eq word one.0)) [
      | inl y ↦ rw y (and_from (list_all (ltb one.1) (codes_among word found)) (rises (codes_among word found))
          (among_all (ltb one.1) word found parts.0) (among_rise word found parts.1))
      | inr n ↦ rw n (among_rise word found parts.1)
    ]

-- two words that are not equal share no code
pub among_apart : (word other : List ℕ) (found : Found) → rises (map code_in found) ≡ true → word ≢ other
    → (code : ℕ) → has (codes_among word found) code ≡ true → has (codes_among other found) code ≡ false
among_apart word other [] up differ code h = refl
among_apart word other (one ∷ found) up differ code h =
    let parts = and_parts (list_all (ltb one.1) (map code_in found)) (rises (map code_in found)) up in
    go (bytes_eq word one.0) refl (bytes_eq other one.0) refl
    (λ w e. above_first one.1 code (codes_among w found) (among_all (ltb one.1) w found parts.0) e)
    (λ e. among_apart word other found parts.1 differ code e) h
  where
    go : (a : Bool) → bytes_eq word one.0 ≡ a → (b : Bool) → bytes_eq other one.0 ≡ b
        → ((w : List ℕ) → has (codes_among w found) code ≡ true → one.1 < code)
        → (has (codes_among word found) code ≡ true → has (codes_among other found) code ≡ false)
        → has (map code_in (cond a (one ∷ filter (λ (x : List ℕ × ℕ). bytes_eq word x.0) found) (filter (λ (x : List ℕ × ℕ). bytes_eq word x.0) found))) code ≡ true
        → has (map code_in (cond b (one ∷ filter (λ (x : List ℕ × ℕ). bytes_eq other x.0) found) (filter (λ (x : List ℕ × ℕ). bytes_eq other x.0) found))) code ≡ false
    go true e true k above again here = absurd (differ ((bytes_eq-Decides word one.0).0 e ∙ sym ((bytes_eq-Decides other one.0).0 k)))
    go true e false k above again here =
        has_cases one.1 code (codes_among word found) here
        (λ same. false_from_ne_true (has (codes_among other found) code) (λ there. omega (arith, same, above other there)))
        again
    go false e true k above again here =
        has_none one.1 code (codes_among other found) (λ same. omega (arith, same, above word here)) (again here)
    go false e false k above again here = again here

module _ (def : IndexDef) (doc : Doc) (fit : ValuesFit doc.hash) where
  pub codes_rise : (word : List ℕ) → rises (codes def word doc) ≡ true
  codes_rise word = among_rise word (occurrences_from def doc 0 def.fields) (up_rises (0 * 2 ^ 32) _ (occurrences_up def doc 0 def.fields fit))

  pub codes_apart : (word other : List ℕ) → word ≢ other → (code : ℕ) → has (codes def word doc) code ≡ true → has (codes def other doc) code ≡ false
  codes_apart word other = among_apart word other (occurrences_from def doc 0 def.fields) (up_rises (0 * 2 ^ 32) _ (occurrences_up def doc 0 def.fields fit))

-- ---- the codes of the fields

-- whether a code of some tokens passes, by the field that they are of
tokens_any : (P : ℕ → Bool) (word : List ℕ) (number low : ℕ) (tokens : List Token) → AreUp low (2 ^ 32) tokens
    → list_any (λ code. P (field_of code)) (codes_among word (map (occurrence number) tokens)) ≡ (P number && has_word word tokens)
tokens_any P word number low [] up = none (P number)
  where
    none : (b : Bool) → false ≡ (b && false)
    none true = refl
    none false = refl
tokens_any P word number low (token ∷ tokens) up =
    elim (cases_Bool (bytes_eq word token.word)) [
      | inl y ↦ rw (y, code_field number token.place up.1, tokens_any P word number (token.place + 1) tokens up.2) (one (P number) (has_word word tokens))
      | inr n ↦ rw n (tokens_any P word number (token.place + 1) tokens up.2)
    ]
  where
    one : (a b : Bool) → (a || (a && b)) ≡ (a && true)
    one true b = refl
    one false b = refl

-- whether the field of some code of a word passes: it is a field that has the word
pub codes_any : (P : ℕ → Bool) (def : IndexDef) (doc : Doc) (word : List ℕ) (number : ℕ) (fields : List Field) → ValuesFit doc.hash
    → list_any (λ code. P (field_of code)) (codes_among word (occurrences_from def doc number fields))
    ≡ any_from number (λ k field. P k && has_word word (field_tokens def doc field)) fields
codes_any P def doc word number [] fit = refl
codes_any P def doc word number (field ∷ fields) fit =
    rw (
      among-append word (map (occurrence number) (field_tokens def doc field)) (occurrences_from def doc (suc number) fields),
      list_any-append (λ code. P (field_of code)) (codes_among word (map (occurrence number) (field_tokens def doc field))) (codes_among word (occurrences_from def doc (suc number) fields)),
      tokens_any P word number 0 (field_tokens def doc field) (field_tokens_up def doc field fit),
      codes_any P def doc word (suc number) fields fit,
    ) refl

-- ---- the places of a word in a field

in-append : (field : ℕ) (xs ys : List ℕ) → places_in field (xs ++ ys) ≡ places_in field xs ++ places_in field ys
in-append field xs ys = ap (map place_of) (filter-append (λ code. eqb (field_of code) field) xs ys) ∙ map-append _ _ _

places_here : (word : List ℕ) (number low : ℕ) (tokens : List Token) → AreUp low (2 ^ 32) tokens
    → places_in number (codes_among word (map (occurrence number) tokens)) ≡ places_of tokens word
places_here word number low [] up = refl
places_here word number low (token ∷ tokens) up =
    let mine : eqb (field_of (number * 2 ^ 32 + token.place)) number ≡ true = rw (code_field number token.place up.1) (grind (arith, nat_tests)) in
    elim (cases_Bool (bytes_eq word token.word)) [
      | inl y ↦ rw (y, mine, code_place number token.place up.1) (ap (λ rest. token.place ∷ rest) (places_here word number (token.place + 1) tokens up.2))
      | inr n ↦ rw n (places_here word number (token.place + 1) tokens up.2)
    ]

places_none : (word : List ℕ) (field number low : ℕ) (tokens : List Token) → number ≢ field → AreUp low (2 ^ 32) tokens
    → places_in field (codes_among word (map (occurrence number) tokens)) ≡ []
places_none word field number low [] other up = refl
places_none word field number low (token ∷ tokens) other up =
    let not_mine : eqb (field_of (number * 2 ^ 32 + token.place)) field ≡ false = rw (code_field number token.place up.1) (grind (arith, nat_tests)) in
    elim (cases_Bool (bytes_eq word token.word)) [
      | inl y ↦ rw (y, not_mine) (places_none word field number (token.place + 1) tokens other up.2)
      | inr n ↦ rw n (places_none word field number (token.place + 1) tokens other up.2)
    ]

places_later : (def : IndexDef) (doc : Doc) (word : List ℕ) (field number : ℕ) (fields : List Field) → ValuesFit doc.hash → field < number
    → places_in field (codes_among word (occurrences_from def doc number fields)) ≡ []
places_later def doc word field number [] fit before = refl
places_later def doc word field number (one ∷ fields) fit before =
    let other : number ≢ field = omega (arith, before) in
    rw (
      among-append word (map (occurrence number) (field_tokens def doc one)) (occurrences_from def doc (suc number) fields),
      in-append field (codes_among word (map (occurrence number) (field_tokens def doc one))) (codes_among word (occurrences_from def doc (suc number) fields)),
      places_none word field number 0 (field_tokens def doc one) other (field_tokens_up def doc one fit),
    ) (places_later def doc word field (suc number) fields fit (omega (arith, before)))

pub places_at : (def : IndexDef) (doc : Doc) (word : List ℕ) (k field number : ℕ) (fields : List Field) (one : Field) → ValuesFit doc.hash
    → slice_get fields k ≡ Some one → field ≡ number + k
    → places_in field (codes_among word (occurrences_from def doc number fields)) ≡ places_of (field_tokens def doc one) word
places_at def doc word k field number [] one fit at is = absurd (cc (at))
places_at def doc word zero field number (first ∷ fields) one fit at is =
    let same : first ≡ one = cc (at) in
    let number_is : field ≡ number = omega (arith, is) in
    rw (
      number_is,
      among-append word (map (occurrence number) (field_tokens def doc first)) (occurrences_from def doc (suc number) fields),
      in-append number (codes_among word (map (occurrence number) (field_tokens def doc first))) (codes_among word (occurrences_from def doc (suc number) fields)),
      places_here word number 0 (field_tokens def doc first) (field_tokens_up def doc first fit),
      places_later def doc word number (suc number) fields fit (omega arith),
      append-nil,
    ) (ap (λ (f : Field). places_of (field_tokens def doc f) word) same)
places_at def doc word (suc k) field number (first ∷ fields) one fit at is =
    let other : number ≢ field = omega (arith, is) in
    rw (
      among-append word (map (occurrence number) (field_tokens def doc first)) (occurrences_from def doc (suc number) fields),
      in-append field (codes_among word (map (occurrence number) (field_tokens def doc first))) (codes_among word (occurrences_from def doc (suc number) fields)),
      places_none word field number 0 (field_tokens def doc first) other (field_tokens_up def doc first fit),
    ) (places_at def doc word k field (suc number) fields one fit at (omega (arith, is)))
