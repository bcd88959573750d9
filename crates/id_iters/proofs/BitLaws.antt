-- The bits of a stretch.
use Rattle.std.specs.Prelude.{◌≡◌, ℕ, ◌+◌, ◌-◌, ◌*◌, ◌/◌, ◌%◌, ◌^◌, ◌<◌, ◌≤◌, List, true, false, ◌&&◌, ◌||◌, nat_eq, nat_le, bit_or, length}
use Rattle.std.proofs.Common.{sym, ◌∙◌, ap, arith, inl, inr, get_or}
use Rattle.std.specs.Int.{bit_at, trailing_zeros, w64}
use Rattle.std.proofs.Math.ListN.{set}
use Rattle.std.proofs.lemmas.Bool.{cases_Bool, cases_lt, eqb-true, eqb-false, ne_eqb, and_parts}
use Rattle.std.proofs.lemmas.Bool.Decides.{nat_tests}
use Rattle.std.proofs.lemmas.List.{get_or-set_same, get_or-set_other}
use Rattle.std.proofs.lemmas.Nat.Bits.{bit_at-trailing_zeros}
use Rattle.doc_table.specs.Pages.{bit_of}
use Rattle.doc_table.proofs.WordLaws.{bits_set}
use Rattle.id_iters.specs.Least.{IsLeastAt}
use Rattle.id_iters.specs.Stretch.{Stretch, is_in}

abbrev pub stretch : ℕ → List ℕ → Stretch
stretch start words = record { start = start; words = words }

-- a word has no bit of an id from a number on
abbrev pub IsBare : ℕ → List ℕ → ℕ → ℕ → Type 0
IsBare start words from k = (bit : ℕ) → bit < 64 → from ≤ 64 * (start + k) + bit → bit_of (get_or words k 0) bit ≡ false

-- an id by its word and its bit
in_at : (start k bit : ℕ) (words : List ℕ) → bit < 64 → is_in (stretch start words) (64 * (start + k) + bit) ≡ bit_of (get_or words k 0) bit
in_at start k bit words within =
    let place : (64 * (start + k) + bit) / 64 - start ≡ k = omega arith in
    let rest : (64 * (start + k) + bit) % 64 ≡ bit = omega arith in
    ap (λ n. bit_of (get_or words n 0) ((64 * (start + k) + bit) % 64)) place ∙ ap (λ n. bit_of (get_or words k 0) n) rest

-- the lowest bit that is set from a number on is the least id
pub lowest_from : (start from k word lowest : ℕ) (words : List ℕ) → 64 * start ≤ from → ((j : ℕ) → j < k → IsBare start words from j)
    → ((bit : ℕ) → bit < 64 → bit_of word bit ≡ (nat_le from (64 * (start + k) + bit) && bit_of (get_or words k 0) bit))
    → 0 < word → word < 2 ^ 64 → lowest ≡ trailing_zeros w64 word → (lowest < 64) × IsLeastAt (is_in (stretch start words)) from (64 * (start + k) + lowest)
lowest_from start from k word lowest words low bare bits some fits is =
    let t = bit_at-trailing_zeros w64 word some fits in
    let inside : lowest < 64 = omega (arith, is, t.0) in
    let one : bit_at word lowest ≡ 1 = ap (bit_at word) is ∙ t.1 in
    let both : (nat_le from (64 * (start + k) + lowest) && bit_of (get_or words k 0) lowest) ≡ true = sym (bits lowest inside) ∙ ap (λ n. nat_eq n 1) one in
    let on : nat_le from (64 * (start + k) + lowest) ≡ true = (and_parts _ _ both).0 in (
      inside,
      record {
        reached = grind (arith, nat_tests, on);
        passes = in_at start k lowest words inside ∙ (and_parts _ _ both).1;
        below = record {
          fails = λ other behind before. elim (cases_lt (other / 64 - start) k) [
            | inl first ↦ bare (other / 64 - start) first (other % 64) (omega arith) (omega (arith, low, behind))
            | inr last ↦
                let here : other / 64 - start ≡ k = omega (arith, last, before, inside, low, behind) in
                let number : other / 64 ≡ start + k = omega (arith, here, low, behind) in
                let from_on : nat_le from (64 * (start + k) + other % 64) ≡ true = grind (arith, nat_tests) in
                let clear : bit_of word (other % 64) ≡ false = ap (λ n. nat_eq n 1) (t.2 (other % 64) (omega (arith, before, number, is))) in
                ap (λ j. bit_of (get_or words j 0) (other % 64)) here
                ∙ (sym (bits (other % 64) (omega arith) ∙ ap (λ b. b && bit_of (get_or words k 0) (other % 64)) from_on) ∙ clear)
          ];
        };
      },
    )

-- two ids of one word are one if their bits are
bits_apart : (id other : ℕ) → other / 64 ≡ id / 64 → nat_eq (other % 64) (id % 64) ≡ nat_eq other id
bits_apart id other same = grind (arith, nat_tests)

-- one more id
pub one_more : (start id : ℕ) (words : List ℕ) → 64 * start ≤ id → id / 64 - start < length words → (other : ℕ) → 64 * start ≤ other
    → is_in (stretch start (set words (id / 64 - start) (bit_or (get_or words (id / 64 - start) 0) (1 * 2 ^ (id % 64) % 2 ^ 64)))) other ≡ (nat_eq other id || is_in (stretch start words) other)
one_more start id words low within other lower =
    elim (cases_Bool (nat_eq (other / 64) (id / 64))) [
      | inl same ↦
          let is : other / 64 ≡ id / 64 = eqb-true (other / 64) (id / 64) same in
          ap (λ n. bit_of (get_or (set words (id / 64 - start) new) (n - start) 0) (other % 64)) is
          ∙ (ap (λ w. bit_of w (other % 64)) (get_or-set_same words (id / 64 - start) new 0 within)
          ∙ (bits_set (get_or words (id / 64 - start) 0) (id % 64) (omega arith) (other % 64) (omega arith)
          ∙ (ap (λ b. b || bit_of (get_or words (id / 64 - start) 0) (other % 64)) (bits_apart id other is)
          ∙ ap (λ n. nat_eq other id || bit_of (get_or words (n - start) 0) (other % 64)) (sym is))))
      | inr apart ↦
          let differs : nat_eq other id ≡ false = ne_eqb other id (λ is. eqb-false (other / 64) (id / 64) apart (ap (λ n. n / 64) is)) in
          ap (λ w. bit_of w (other % 64)) (get_or-set_other words (id / 64 - start) (other / 64 - start) new 0
          (λ e. eqb-false (other / 64) (id / 64) apart (omega (arith, e, low, lower))))
          ∙ sym (ap (λ b. b || is_in (stretch start words) other) differs)
    ]
  where
    new : ℕ
    new = bit_or (get_or words (id / 64 - start) 0) (1 * 2 ^ (id % 64) % 2 ^ 64)
