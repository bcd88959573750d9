-- The least id from a number on, page by page.
use Rattle.std.specs.Prelude.{◌≡◌, ◌⊎◌, ℕ, zero, suc, ◌+◌, ◌*◌, ◌/◌, ◌%◌, ◌^◌, ◌<◌, ◌≤◌, List, [], ◌∷◌, true, false, ◌&&◌, nat_eq, nat_le, None, Some, length, refl}
use Rattle.std.proofs.Common.{sym, ◌∙◌, ap, arith, inl, inr}
use Rattle.std.specs.Int.{bit_at, trailing_zeros, w64}
use Rattle.std.proofs.lemmas.Bool.{cases_Bool, eqb-true, cases_lt, and_parts}
use Rattle.std.proofs.lemmas.Bool.Decides.{nat_tests}
use Rattle.std.proofs.lemmas.Nat.Bits.{bit_at-trailing_zeros}
use Rattle.doc_table.specs.declared.page.Page.{Page}
use Rattle.doc_table.specs.Pages.{bit_of, word_of, has_id, Rises, number_at, word_at, IsNext}
use Rattle.doc_table.proofs.WordLaws.{no_bits}
use Rattle.doc_table.proofs.PlaceLaws.{number_apart, word_is}

-- either a page has a number, or no id of it is in
word_cases : (pages : List Page) (n : ℕ) → ((k : ℕ) × (k < length pages) × (number_at pages k ≡ n) × (word_of n pages ≡ word_at pages k)) ⊎ (word_of n pages ≡ 0)
word_cases [] n = inr refl
word_cases (page ∷ pages) n =
    elim (cases_Bool (nat_eq n page.number)) [
      | inl same ↦ inl (zero, omega arith, sym (eqb-true n page.number same), rw same refl)
      | inr apart ↦ elim (word_cases pages n) [
        | inl found ↦ inl (suc found.0, omega (arith, found.1), found.2, rw apart found.3)
        | inr none ↦ inr (rw apart none)
      ]
    ]

-- no id of a page is in from a number on
abbrev pub IsBare : List Page → ℕ → ℕ → Type 0
IsBare pages from k = (bit : ℕ) → bit < 64 → from ≤ 64 * number_at pages k + bit → bit_of (word_at pages k) bit ≡ false

-- as before the page of the number
pub bare_before : (pages : List Page) (from k : ℕ) → number_at pages k < from / 64 → IsBare pages from k
bare_before pages from k before bit inside behind = absurd (omega arith)

-- or none is set
pub bare_spent : (pages : List Page) (from k : ℕ) → word_at pages k ≡ 0 → IsBare pages from k
bare_spent pages from k none bit inside behind = ap (λ w. bit_of w bit) none ∙ no_bits bit

-- an id by its page and its bit
has_at : (pages : List Page) (number bit : ℕ) → bit < 64 → has_id pages (64 * number + bit) ≡ bit_of (word_of number pages) bit
has_at pages number bit within =
    let page : (64 * number + bit) / 64 ≡ number = omega arith in
    let rest : (64 * number + bit) % 64 ≡ bit = omega arith in
    ap (λ n. bit_of (word_of n pages) ((64 * number + bit) % 64)) page ∙ ap (λ n. bit_of (word_of number pages) n) rest

-- no id is in between a number and the lowest bit that is set from it on
bare_found : (high from place word lowest : ℕ) (pages : List Page) → Rises 0 high pages → place < length pages → ((k : ℕ) → k < place → IsBare pages from k) → ((bit : ℕ) → bit < 64 → bit_of word bit ≡ (nat_le from (64 * number_at pages place + bit) && bit_of (word_at pages place) bit)) → lowest < 64 → ((bit : ℕ) → bit < lowest → bit_at word bit ≡ 0) → (other : ℕ) → from ≤ other → other < 64 * number_at pages place + lowest → has_id pages other ≡ false
bare_found high from place word lowest pages rises within bare bits inside none other behind before =
    elim (word_cases pages (other / 64)) [
      | inr no_page ↦ ap (λ w. bit_of w (other % 64)) no_page ∙ no_bits (other % 64)
      | inl found ↦ ap (λ w. bit_of w (other % 64)) found.3 ∙ elim (cases_lt found.0 place) [
        | inl first ↦ bare found.0 first (other % 64) (omega arith) (omega (arith, found.2))
        | inr last ↦
            let here : found.0 ≡ place = omega (arith, last, found.2, number_apart 0 high pages place found.0 rises (omega arith) found.1) in
            let number : number_at pages place ≡ other / 64 = ap (λ k. number_at pages k) (sym here) ∙ found.2 in
            let on : nat_le from (64 * number_at pages place + other % 64) ≡ true = grind (arith, nat_tests) in
            let clear : bit_of word (other % 64) ≡ false = ap (λ n. nat_eq n 1) (none (other % 64) (omega (arith, number))) in
            ap (λ k. bit_of (word_at pages k) (other % 64)) here
            ∙ (sym (bits (other % 64) (omega arith) ∙ ap (λ b. b && bit_of (word_at pages place) (other % 64)) on) ∙ clear)
      ]
    ]

-- so that bit is the least id
pub found_from : (high from place word lowest : ℕ) (pages : List Page) → Rises 0 high pages → place < length pages → ((k : ℕ) → k < place → IsBare pages from k) → ((bit : ℕ) → bit < 64 → bit_of word bit ≡ (nat_le from (64 * number_at pages place + bit) && bit_of (word_at pages place) bit)) → 0 < word → word < 2 ^ 64 → lowest ≡ trailing_zeros w64 word → IsNext (has_id pages) from (Some (64 * number_at pages place + lowest))
found_from high from place word lowest pages rises within bare bits some fits is =
    let t = bit_at-trailing_zeros w64 word some fits in
    let inside : lowest < 64 = omega (arith, is, t.0) in
    let one : bit_at word lowest ≡ 1 = ap (bit_at word) is ∙ t.1 in
    let both : (nat_le from (64 * number_at pages place + lowest) && bit_of (word_at pages place) lowest) ≡ true = sym (bits lowest inside) ∙ ap (λ n. nat_eq n 1) one in
    let from_on : nat_le from (64 * number_at pages place + lowest) ≡ true = (and_parts _ _ both).0 in (
      grind (arith, nat_tests, from_on),
      has_at pages (number_at pages place) lowest inside ∙ (ap (λ w. bit_of w lowest) (word_is 0 high pages (number_at pages place) place rises within refl) ∙ (and_parts _ _ both).1),
      bare_found high from place word lowest pages rises within bare bits inside (λ bit below. t.2 bit (omega (arith, below, is))),
    )

-- and where all pages are bare there is none
pub none_from : (from : ℕ) (pages : List Page) → ((k : ℕ) → k < length pages → IsBare pages from k) → IsNext (has_id pages) from None
none_from from pages bare id behind =
    elim (word_cases pages (id / 64)) [
      | inr none ↦ ap (λ w. bit_of w (id % 64)) none ∙ no_bits (id % 64)
      | inl found ↦ ap (λ w. bit_of w (id % 64)) found.3 ∙ bare found.0 found.1 (id % 64) (omega arith) (omega (arith, found.2))
    ]
