-- A word of the command line that is a number, and one that is none.
use Rattle.std.proofs.Common.{◌≡◌, ◌≢◌, ℕ, ◌<◌, ◌≤◌, ◌^◌, ℤ, pos, List, Some, true, false, FitsSigned, arith, ap, sym, subst, ◌∙◌}
use Rattle.std.specs.Prelude.{◌↔◌}
use Rattle.std.specs.Int.{w64}
use Rattle.std.specs.Fmt.{signed_decimal}
use Rattle.std.proofs.lemmas.Bool.Decides.{nat_tests}
use Rattle.std.proofs.lemmas.Fmt.{signed_decimal_injective}
use Rattle.ft_base.proofs.Ints.{mag_fits}
use Rattle.command_line.specs.Forms.{IsNumber, IsSeed}
use lib.Signed.{le_z}
use lib.IntN.{negsuc, nat_abs}

-- a number that the word spells is the one
one_number : (word : List ℕ) (z : ℤ) (n most : ℕ) → FitsSigned w64 z → word ≡ signed_decimal z → most < 2 ^ 32 → IsNumber word n most → z ≡ pos n
one_number word z n most fits spelled few is =
    signed_decimal_injective z (pos n) (mag_fits z fits) (omega (arith, is.within, few)) (sym spelled ∙ is.spelled)

pos-same : (k n : ℕ) → pos k ≡ pos n → k ≡ n
pos-same k n e = cc

within : (word : List ℕ) (z : ℤ) (n most : ℕ) → FitsSigned w64 z → word ≡ signed_decimal z → le_z (pos 1) z ≡ true → le_z z (pos most) ≡ true → most < 2 ^ 32
    → (Some (nat_abs z) ≡ Some n) ↔ IsNumber word n most
within word (pos k) n most fits spelled low high few = (
  λ e. let same : k ≡ n = cc in record {
    spelled = subst (λ (m : ℕ). word ≡ signed_decimal (pos m)) same spelled;
    some = grind (arith, nat_tests, low, same);
    within = grind (arith, nat_tests, high, same);
  },
  λ is. ap Some (pos-same k n (one_number word (pos k) n most fits spelled few is)),
)
within word (negsuc k) n most fits spelled low high few = absurd (let no : false ≡ true = low in cc)

-- the number from 1 to a most that a word spells, as the code has it
pub number_within : (word text : List ℕ) (z shown top : ℤ) (n most : ℕ) → FitsSigned w64 z → text ≡ word → text ≡ signed_decimal z → shown ≡ z → top ≡ pos most → most < 2 ^ 32
    → le_z (pos 1) shown ≡ true → le_z shown top ≡ true → (Some (nat_abs shown) ≡ Some n) ↔ IsNumber word n most
number_within word text z shown top n most fits same spelled is is_top few low high =
    rw is (within word z n most fits (sym same ∙ spelled) (subst (λ (s : ℤ). le_z (pos 1) s ≡ true) is low)
    (subst (λ (s : ℤ). le_z s (pos most) ≡ true) is (subst (λ (t : ℤ). le_z shown t ≡ true) is_top high)) few)

too_many : (n most : ℕ) → le_z (pos n) (pos most) ≡ false → n ≤ most → ⊥
too_many n most high few = grind (arith, nat_tests, high, few)

too_few : (n : ℕ) → le_z (pos 1) (pos n) ≡ false → 1 ≤ n → ⊥
too_few n low some = grind (arith, nat_tests, low, some)

-- one above the most
pub number_above : (word text : List ℕ) (z shown top : ℤ) (n most : ℕ) → FitsSigned w64 z → text ≡ word → text ≡ signed_decimal z → shown ≡ z → top ≡ pos most → most < 2 ^ 32
    → le_z shown top ≡ false → IsNumber word n most → ⊥
number_above word text z shown top n most fits same spelled is is_top few high number =
    let found : shown ≡ pos n = is ∙ one_number word z n most fits (sym same ∙ spelled) few number in
    too_many n most (subst (λ (s : ℤ). le_z s (pos most) ≡ false) found (subst (λ (t : ℤ). le_z shown t ≡ false) is_top high)) number.within

-- one below 1
pub number_below : (word text : List ℕ) (z shown : ℤ) (n most : ℕ) → FitsSigned w64 z → text ≡ word → text ≡ signed_decimal z → shown ≡ z → most < 2 ^ 32
    → le_z (pos 1) shown ≡ false → IsNumber word n most → ⊥
number_below word text z shown n most fits same spelled is few low number =
    let found : shown ≡ pos n = is ∙ one_number word z n most fits (sym same ∙ spelled) few number in
    too_few n (subst (λ (s : ℤ). le_z (pos 1) s ≡ false) found low) number.some

-- a word that spells none
pub number_none : (word text : List ℕ) (n most : ℕ) → text ≡ word → ((z : ℤ) → FitsSigned w64 z → text ≢ signed_decimal z) → most < 2 ^ 32 → IsNumber word n most → ⊥
number_none word text n most same none few number =
    none (pos n) (omega (arith, number.within, few)) (same ∙ number.spelled)

-- a seed that the word spells is the one
one_seed : (word : List ℕ) (z : ℤ) (n : ℕ) → FitsSigned w64 z → word ≡ signed_decimal z → IsSeed word n → z ≡ pos n
one_seed word z n fits spelled is =
    signed_decimal_injective z (pos n) (mag_fits z fits) (omega (arith, is.few)) (sym spelled ∙ is.spelled)

seed : (word : List ℕ) (z : ℤ) (n : ℕ) → FitsSigned w64 z → word ≡ signed_decimal z → le_z (pos 0) z ≡ true → (Some (nat_abs z) ≡ Some n) ↔ IsSeed word n
seed word (pos k) n fits spelled low = (
  λ e. let same : k ≡ n = cc in record { spelled = subst (λ (m : ℕ). word ≡ signed_decimal (pos m)) same spelled; few = omega (arith, fits, same) },
  λ is. ap Some (pos-same k n (one_seed word (pos k) n fits spelled is)),
)
seed word (negsuc k) n fits spelled low = absurd (let no : false ≡ true = low in cc)

-- the number below 2^63 that a word spells, as the code has it
pub seed_within : (word text : List ℕ) (z shown : ℤ) (n : ℕ) → FitsSigned w64 z → text ≡ word → text ≡ signed_decimal z → shown ≡ z → le_z (pos 0) shown ≡ true
    → (Some (nat_abs shown) ≡ Some n) ↔ IsSeed word n
seed_within word text z shown n fits same spelled is low = rw is (seed word z n fits (sym same ∙ spelled) (subst (λ (s : ℤ). le_z (pos 0) s ≡ true) is low))

below_none : (n : ℕ) → le_z (pos 0) (pos n) ≡ false → ⊥
below_none n low = grind (arith, nat_tests, low)

-- one below 0
pub seed_below : (word text : List ℕ) (z shown : ℤ) (n : ℕ) → FitsSigned w64 z → text ≡ word → text ≡ signed_decimal z → shown ≡ z → le_z (pos 0) shown ≡ false → IsSeed word n → ⊥
seed_below word text z shown n fits same spelled is low seed =
    let found : shown ≡ pos n = is ∙ one_seed word z n fits (sym same ∙ spelled) seed in below_none n (subst (λ (s : ℤ). le_z (pos 0) s ≡ false) found low)

-- a word that spells none
pub seed_none : (word text : List ℕ) (n : ℕ) → text ≡ word → ((z : ℤ) → FitsSigned w64 z → text ≢ signed_decimal z) → IsSeed word n → ⊥
seed_none word text n same none seed = none (pos n) (omega (arith, seed.few)) (same ∙ seed.spelled)
