-- What `parse` says of a text is the number that it spells.
use Rattle.std.proofs.Common.{◌≡◌, ℕ, zero, suc, ◌<◌, ◌≤◌, ◌^◌, ◌==◌, ℤ, pos, neg_ℤ, Bool, true, false, ◌&&◌, List, [], ◌∷◌, length, get_or, Option, None, Some, Result, Ok, Err, MatchResult, inl, inr, refl, sym, ap, arith}
use Rattle.std.specs.Int.{w64}
use Rattle.std.specs.Result.{OkIff}
use Rattle.std.specs.Char.{is_ascii_digit}
use Rattle.std.specs.Prelude.{nat_lt, nat_le}
use Rattle.std.specs.Str.{IsUtf8, all_ascii_digits}
use Rattle.std.specs.Str.Parse.{ParsesSigned, digits_value}
use Rattle.std.proofs.lemmas.Bool.{cases_Bool, eqb-true, ltb-true, lt-ltb, le-leb, false≢true, leb-true}
use Rattle.std.proofs.lemmas.Bool.Decides.{nat_tests}
use Rattle.std.proofs.Common.{to_z, of_z, FitsSigned}
use Rattle.std.proofs.lemmas.Int.{to_z-of_z}
use Rattle.std.proofs.lemmas.Str.{IsUtf8-from_ascii}
use Rattle.std.proofs.lemmas.Str.Parse.{IsNumeralModel, numerals_by_value, tells_all_ascii_digits, parse_signed_minus, parse_signed_plus, parse_signed_plain}
use Rattle.field_text.specs.Numbers.{digits_of, positive, negative, number_of}

and_left : (a b : Bool) → (a && b) ≡ true → a ≡ true
and_left true b h = refl
and_left false b h = h

and_right : (a b : Bool) → (a && b) ≡ true → b ≡ true
and_right true b h = h
and_right false b h = absurd (false≢true h)

own : IsNumeralModel (λ ds. all_ascii_digits ds ≡ true) (digits_value 10)
own = numerals_by_value _ tells_all_ascii_digits

abbrev AreDigits : List ℕ → Type 0
AreDigits ds = all_ascii_digits ds ≡ true

-- what a result says, where `o` is the number that a text spells
abbrev pub Reads : {E : Type 0} → Option ℤ → Result ℤ E → Type 0
Reads o r = MatchResult r (λ n. o ≡ Some n) (λ _. o ≡ None)

read_positive : {E : Type 0} (ds : List ℕ) (r : Result ℤ E) → OkIff r (AreDigits ds × (0 < length ds) × (digits_value 10 ds < 2 ^ 63)) (pos (digits_value 10 ds)) → Reads (positive (digits_of ds)) r
read_positive [] (Ok n) h = absurd (omega (arith, h.0.1))
read_positive [] (Err e) h = refl
read_positive (d ∷ ds) (Ok n) h = rw (h.0.0, lt-ltb (digits_value 10 (d ∷ ds)) (2 ^ 63) h.0.2) (ap Some (sym h.1))
read_positive (d ∷ ds) (Err e) h =
    elim (cases_Bool (all_ascii_digits (d ∷ ds))) [
      | inl y ↦ elim (cases_Bool (nat_lt (digits_value 10 (d ∷ ds)) (2 ^ 63))) [
        | inl z ↦ absurd (h (y, omega arith, ltb-true (digits_value 10 (d ∷ ds)) (2 ^ 63) z))
        | inr n ↦ rw (y, n) refl
      ]
      | inr n ↦ rw n refl
    ]

read_negative : {E : Type 0} (ds : List ℕ) (r : Result ℤ E) → OkIff r (AreDigits ds × (0 < length ds) × (digits_value 10 ds ≤ 2 ^ 63)) (neg_ℤ (pos (digits_value 10 ds))) → Reads (negative (digits_of ds)) r
read_negative [] (Ok n) h = absurd (omega (arith, h.0.1))
read_negative [] (Err e) h = refl
read_negative (d ∷ ds) (Ok n) h = rw (h.0.0, le-leb (digits_value 10 (d ∷ ds)) (2 ^ 63) h.0.2) (ap Some (sym h.1))
read_negative (d ∷ ds) (Err e) h =
    elim (cases_Bool (all_ascii_digits (d ∷ ds))) [
      | inl y ↦ elim (cases_Bool (nat_le (digits_value 10 (d ∷ ds)) (2 ^ 63))) [
        | inl z ↦ absurd (h (y, omega arith, leb-true (digits_value 10 (d ∷ ds)) (2 ^ 63) z))
        | inr n ↦ rw (y, n) refl
      ]
      | inr n ↦ rw n refl
    ]

-- the number by its first byte
pub reads : {E : Type 0} (text : List ℕ) (r : Result ℤ E) → ParsesSigned w64 10 text r → Reads (number_of text) r
reads [] r h = none r (parse_signed_plain own w64 [] r h (λ e. absurd (omega arith)) (λ e. absurd (omega arith)))
  where
    none : {E : Type 0} (r : Result ℤ E) → OkIff r (AreDigits [] × (0 < 0) × (digits_value 10 [] < 2 ^ 63)) (pos (digits_value 10 [])) → Reads None r
    none (Ok n) h = absurd (omega (arith, h.0.1))
    none (Err e) h = refl
reads (b ∷ bs) r h =
    elim (cases_Bool (b == 43)) [
      | inl p ↦ rw p (read_positive bs r (parse_signed_plus own w64 (b ∷ bs) r h (eqb-true b 43 p)))
      | inr q ↦ elim (cases_Bool (b == 45)) [
        | inl m ↦ rw (q, m) (read_negative bs r (parse_signed_minus own w64 (b ∷ bs) r h (eqb-true b 45 m)))
        | inr n ↦ rw (q, n) (read_positive (b ∷ bs) r (parse_signed_plain own w64 (b ∷ bs) r h (eqb_not b 43 q) (eqb_not b 45 n)))
      ]
    ]
  where
    eqb_not : (a c : ℕ) → (a == c) ≡ false → a ≡ c → ⊥
    eqb_not a c e s = grind (arith, nat_tests)

-- digits are ASCII
digit_ascii : (d : ℕ) → is_ascii_digit d ≡ true → d < 128
digit_ascii d h = grind (arith, nat_tests)

ascii : (ds : List ℕ) → AreDigits ds → (i : ℕ) → get_or ds i 0 < 128
ascii [] h i = omega arith
ascii (d ∷ ds) h zero = digit_ascii d (and_left (is_ascii_digit d) (all_ascii_digits ds) h)
ascii (d ∷ ds) h (suc i) = ascii ds (and_right (is_ascii_digit d) (all_ascii_digits ds) h) i

signed_ascii : (b : ℕ) (ds : List ℕ) → b < 128 → AreDigits ds → (i : ℕ) → get_or (b ∷ ds) i 0 < 128
signed_ascii b ds small h zero = small
signed_ascii b ds small h (suc i) = ascii ds h i

no_digits : (ds : List ℕ) → (AreDigits ds → ⊥) → digits_of ds ≡ None
no_digits [] h = refl
no_digits (d ∷ ds) h =
    elim (cases_Bool (all_ascii_digits (d ∷ ds))) [
      | inl y ↦ absurd (h y)
      | inr n ↦ rw n refl
    ]

-- what is not text spells no number
pub not_text : (text : List ℕ) → (IsUtf8 text → ⊥) → number_of text ≡ None
not_text [] h = refl
not_text (b ∷ bs) h =
    elim (cases_Bool (b == 43)) [
      | inl p ↦ rw (p, no_digits bs (λ y. h (IsUtf8-from_ascii (b ∷ bs) (signed_ascii b bs (omega (arith, eqb-true b 43 p)) y)))) refl
      | inr q ↦ elim (cases_Bool (b == 45)) [
        | inl m ↦ rw (q, m, no_digits bs (λ y. h (IsUtf8-from_ascii (b ∷ bs) (signed_ascii b bs (omega (arith, eqb-true b 45 m)) y)))) refl
        | inr n ↦ rw (q, n, no_digits (b ∷ bs) (λ y. h (IsUtf8-from_ascii (b ∷ bs) (ascii (b ∷ bs) y)))) refl
      ]
    ]

-- what `parse` reads is in range, so that its bits are its own
pub bits_same : (E : Type 0) (text : List ℕ) (n : ℤ) → ParsesSigned {E = E} w64 10 text (Ok n) → to_z w64 (of_z w64 n) ≡ n
bits_same E text n h = let f : FitsSigned w64 n = rw h.1 h.0.1 in to_z-of_z w64 n f
