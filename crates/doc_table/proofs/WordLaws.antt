-- Laws of the bits of one word.
use Rattle.std.specs.Prelude.{◌≡◌, ℕ, ◌+◌, ◌-◌, ◌*◌, ◌/◌, ◌%◌, ◌^◌, ◌<◌, ◌≤◌, false, not, ◌||◌, ◌&&◌, nat_eq, nat_le, bit_and, bit_or}
use Rattle.std.proofs.Common.{sym, ◌∙◌, ap, arith, inl, inr}
use Rattle.std.specs.Int.{bit_at, bit_not, trailing_zeros, w64}
use Rattle.std.proofs.lemmas.Bool.{cases_Bool, eqb-true, eqb-false}
use Rattle.std.proofs.lemmas.Bool.Decides.{nat_tests}
use Rattle.std.proofs.lemmas.Nat.{one_shl}
use Rattle.std.proofs.lemmas.Nat.Bits.{bit_at_and, bit_at_mask_inside, bit_at_mask_below, ones_shl, bit_at-lt, bit_at_set_same, bit_at_set_other, bit_at_clear_same, bit_at_clear_other, bit_at-pow_same, bit_at-pow_other, bit_at-zero, bit_at-trailing_zeros, same_from_bits}
use Rattle.doc_table.specs.Pages.{bit_of}

-- one more bit set
pub bits_set : (word k : ℕ) → k < 64 → (bit : ℕ) → bit < 64 → bit_of (bit_or word (1 * 2 ^ k % 2 ^ 64)) bit ≡ (nat_eq bit k || bit_of word bit)
bits_set word k within bit inside =
    elim (cases_Bool (nat_eq bit k)) [
      | inl same ↦ rw (same, eqb-true bit k same) (ap (λ n. nat_eq n 1) (bit_at_set_same w64 word k within))
      | inr apart ↦ rw apart (ap (λ n. nat_eq n 1) (bit_at_set_other w64 word k within bit (eqb-false bit k apart)))
    ]

-- that bit alone
pub bits_new : (k : ℕ) → k < 64 → (bit : ℕ) → bit < 64 → bit_of (1 * 2 ^ k % 2 ^ 64) bit ≡ (nat_eq bit k || bit_of 0 bit)
bits_new k within bit inside =
    ap (λ n. bit_of n bit) (one_shl k 64 within)
    ∙ elim (cases_Bool (nat_eq bit k)) [
      | inl same ↦ rw (same, eqb-true bit k same) (ap (λ n. nat_eq n 1) (bit_at-pow_same k))
      | inr apart ↦ rw apart (ap (λ n. nat_eq n 1) (bit_at-pow_other k bit (eqb-false bit k apart) ∙ sym (bit_at-zero bit)))
    ]

-- one bit cleared
pub bits_clear : (word k : ℕ) → k < 64 → (bit : ℕ) → bit < 64 → bit_of (bit_and word (bit_not w64 (1 * 2 ^ k % 2 ^ 64))) bit ≡ (not (nat_eq bit k) && bit_of word bit)
bits_clear word k within bit inside =
    elim (cases_Bool (nat_eq bit k)) [
      | inl same ↦ rw (same, eqb-true bit k same) (ap (λ n. nat_eq n 1) (bit_at_clear_same w64 word k within))
      | inr apart ↦ rw apart (ap (λ n. nat_eq n 1) (bit_at_clear_other w64 word k within bit inside (eqb-false bit k apart)))
    ]

-- no bit of nothing
pub no_bits : (bit : ℕ) → bit_of 0 bit ≡ false
no_bits bit = ap (λ n. nat_eq n 1) (bit_at-zero bit)

-- the bits from one on are kept
bits_kept : (word k bit : ℕ) → k < 64 → bit < 64 → k ≤ bit → bit_at (bit_and word ((2 ^ 64 - 1) * 2 ^ k % 2 ^ 64)) bit ≡ bit_at word bit
bits_kept word k bit within inside behind =
    let mask : (2 ^ 64 - 1) * 2 ^ k % 2 ^ 64 ≡ 2 ^ 64 - 2 ^ k = ones_shl 64 k (omega arith) in
    let one : bit_at ((2 ^ 64 - 1) * 2 ^ k % 2 ^ 64) bit ≡ 1 = ap (λ n. bit_at n bit) mask ∙ bit_at_mask_inside k 64 bit behind inside in
    omega (arith, bit_at_and word ((2 ^ 64 - 1) * 2 ^ k % 2 ^ 64) bit, one, bit_at-lt word bit)

-- and those before it cleared
bits_cut : (word k bit : ℕ) → k < 64 → bit < k → bit_at (bit_and word ((2 ^ 64 - 1) * 2 ^ k % 2 ^ 64)) bit ≡ 0
bits_cut word k bit within before =
    let mask : (2 ^ 64 - 1) * 2 ^ k % 2 ^ 64 ≡ 2 ^ 64 - 2 ^ k = ones_shl 64 k (omega arith) in
    let none : bit_at ((2 ^ 64 - 1) * 2 ^ k % 2 ^ 64) bit ≡ 0 = ap (λ n. bit_at n bit) mask ∙ bit_at_mask_below k 64 bit before in
    omega (arith, bit_at_and word ((2 ^ 64 - 1) * 2 ^ k % 2 ^ 64) bit, none)

-- the bits of ids from a number on
pub bits_after : (word number from : ℕ) → number ≡ from / 64 → (bit : ℕ) → bit < 64 → bit_of (bit_and word ((2 ^ 64 - 1) * 2 ^ (from % 64) % 2 ^ 64)) bit ≡ (nat_le from (64 * number + bit) && bit_of word bit)
bits_after word number from is bit inside =
    elim (cases_Bool (nat_le from (64 * number + bit))) [
      | inl behind ↦
          let order : from % 64 ≤ bit = grind (arith, nat_tests) in
          rw behind (ap (λ n. nat_eq n 1) (bits_kept word (from % 64) bit (omega arith) inside order))
      | inr before ↦
          let order : bit < from % 64 = grind (arith, nat_tests) in
          rw before (ap (λ n. nat_eq n 1) (bits_cut word (from % 64) bit (omega arith) order))
    ]

-- the lowest bit is one of 64
pub lowest_below : (word : ℕ) → 0 < word → word < 2 ^ 64 → trailing_zeros w64 word < 64
lowest_below word some fits = (bit_at-trailing_zeros w64 word some fits).0

-- nothing has no bit left
pub no_bits_left : (word mask : ℕ) → word ≡ 0 → bit_and word mask ≡ 0
no_bits_left word mask none =
    same_from_bits (bit_and word mask) 0 (λ bit. omega (arith, bit_at_and word mask bit, ap (λ w. bit_at w bit) none, bit_at-zero bit))
