-- What lanes of signed numbers compute of an interval, and the flags that their bits stand for.
use Rattle.std.proofs.Common.{◌≡◌, ℕ, ℤ, ◌+◌, ◌%◌, ◌^◌, ◌≤◌, Bool, true, false, not, ◌&&◌, cond, eqb, List, [], ◌∷◌, ◌++◌, map, length, take, refl, sym, ap, ap₂, ◌∙◌, arith, w64, of_z, to_z, int_le, bit_and}
use Rattle.std.proofs.lemmas.Simd.{mask_l-mod, splat_is_map, zip2_of_maps}
use Rattle.std.proofs.lemmas.List.{length-map, map-append}
use Rattle.std.proofs.lemmas.Int.{to_z-of_z}
use Rattle.std.specs.Prelude.{replicate}
use Rattle.std.proofs.lemmas.Slice.{take-put_mid}
use Rattle.std.proofs.Math.Seq.{take-add}
use borrow.Rule.Slice.PartMut.{put_mid}
use lib.Lanes.{Each1, chunk, mask_l, top, zip2}
use mir.Syntax.{bit_and as and_bits, mask, le, signed}
use mir.Val.{SFits}
use borrow.Rule.Simd.Lanes.{act2}
use borrow.Table.Row.{s_int}

-- two masks at once, and the mask of an order of two lanes
abbrev pub both : ℕ → ℕ → ℕ
both = act2 and_bits (s_int w64) (s_int w64) (s_int w64)

abbrev pub at_most : ℕ → ℕ → ℕ
at_most = act2 (mask (le signed)) (s_int w64) (s_int w64) (s_int w64)

masked : (a b : Bool) → top 63 (both (cond a 18446744073709551615 0) (cond b 18446744073709551615 0)) ≡ a && b
masked true true = refl
masked true false = refl
masked false true = refl
masked false false = refl

module _ (low high : ℤ) (low_fits : SFits w64 low) (high_fits : SFits w64 high) where
  abbrev pub is_inside : ℤ → Bool
  is_inside value = int_le low value && int_le value high

  abbrev pub lane : ℤ → ℕ
  lane value = both (at_most (of_z w64 low) (of_z w64 value)) (at_most (of_z w64 value) (of_z w64 high))

  lane_is : (value : ℤ) → SFits w64 value → top 63 (lane value) ≡ is_inside value
  lane_is value fits = simp (to_z-of_z w64 low low_fits, to_z-of_z w64 high high_fits, to_z-of_z w64 value fits) (masked (int_le low value) (int_le value high))

  lanes_are : (values : List ℤ) → Each1 (SFits w64) values → map (top 63) (map lane values) ≡ map is_inside values
  lanes_are [] fits = refl
  lanes_are (value ∷ values) fits = ap₂ (λ a b. a ∷ b) (lane_is value fits.0) (lanes_are values fits.1)

  -- the bits of four lanes
  pub inside_is : (values : List ℤ) → length values ≡ 4 → Each1 (SFits w64) values
      → mask_l (map (top 63) (zip2 both (zip2 at_most (replicate 4 (of_z w64 low)) (map (of_z w64) values)) (zip2 at_most (map (of_z w64) values) (replicate 4 (of_z w64 high))))) % 2 ^ 64 ≡ mask_l (map is_inside values)
  inside_is values four fits =
      let lows = splat_is_map values 4 (of_z w64 low) four in
      let highs = splat_is_map values 4 (of_z w64 high) four in
      let above = zip2_of_maps at_most (λ _. of_z w64 low) (of_z w64) values lows refl in
      let below = zip2_of_maps at_most (of_z w64) (λ _. of_z w64 high) values refl highs in
      ap (λ l. mask_l (map (top 63) l) % 2 ^ 64) (zip2_of_maps both (λ x. at_most (of_z w64 low) (of_z w64 x)) (λ x. at_most (of_z w64 x) (of_z w64 high)) values above below)
      ∙ ap (λ l. mask_l l % 2 ^ 64) (lanes_are values fits)
      ∙ mask_l-mod (map is_inside values) 64 (omega (arith, length-map values is_inside))

-- lanes as they are passed on
pub passed_on : (values : List ℤ) → Each1 (SFits w64) values → map (to_z w64) (map (of_z w64) values) ≡ values
passed_on [] fits = refl
passed_on (value ∷ values) fits = ap₂ (λ a b. a ∷ b) (to_z-of_z w64 value fits.0) (passed_on values fits.1)

-- flags put behind others
pub four_put : (out four flags : List Bool) (i k : ℕ) → i + 4 ≤ length out → length flags ≡ 4 → four ≡ flags → take (i + 4) (put_mid i k out four) ≡ take i out ++ flags
four_put out four flags i k room wide here =
    let long : length four ≡ 4 = ap length here ∙ wide in
    take-put_mid i k out four (i + 4) (omega arith) (omega arith) ∙ ap (λ (more : List Bool). take i out ++ more) here

-- four flags more
pub four_more : (p : ℤ → Bool) (values : List ℤ) (out new : List Bool) (i : ℕ) → take i out ≡ map p (take i values)
    → new ≡ take i out ++ map p (chunk i 4 values) → new ≡ map p (take (i + 4) values)
four_more p values out new i before here =
    here
    ∙ ap (λ (front : List Bool). front ++ map p (chunk i 4 values)) before
    ∙ sym (map-append p (take i values) (chunk i 4 values))
    ∙ ap (map p) (sym (take-add i 4 values))

-- four bits are the flags whose mask they are
pub four_flags : (flags : List Bool) → length flags ≡ 4 → (bits : ℕ) → bits ≡ mask_l flags
    → not (eqb (bit_and bits 1) 0) ∷ not (eqb (bit_and bits 2) 0) ∷ not (eqb (bit_and bits 4) 0) ∷ not (eqb (bit_and bits 8) 0) ∷ [] ≡ flags
four_flags flags four bits e = ap (λ n. not (eqb (bit_and n 1) 0) ∷ not (eqb (bit_and n 2) 0) ∷ not (eqb (bit_and n 4) 0) ∷ not (eqb (bit_and n 8) 0) ∷ []) e ∙ told flags four
  where
    each : (a b c d : Bool) → let n = mask_l (a ∷ b ∷ c ∷ d ∷ []) in not (eqb (bit_and n 1) 0) ∷ not (eqb (bit_and n 2) 0) ∷ not (eqb (bit_and n 4) 0) ∷ not (eqb (bit_and n 8) 0) ∷ [] ≡ a ∷ b ∷ c ∷ d ∷ []
    each true true true true = refl
    each true true true false = refl
    each true true false true = refl
    each true true false false = refl
    each true false true true = refl
    each true false true false = refl
    each true false false true = refl
    each true false false false = refl
    each false true true true = refl
    each false true true false = refl
    each false true false true = refl
    each false true false false = refl
    each false false true true = refl
    each false false true false = refl
    each false false false true = refl
    each false false false false = refl

    told : (flags : List Bool) → length flags ≡ 4 → let n = mask_l flags in not (eqb (bit_and n 1) 0) ∷ not (eqb (bit_and n 2) 0) ∷ not (eqb (bit_and n 4) 0) ∷ not (eqb (bit_and n 8) 0) ∷ [] ≡ flags
    told (a ∷ b ∷ c ∷ d ∷ []) e = each a b c d
    told [] e = absurd (let no : ⊥ = omega arith in no)
    told (a ∷ []) e = absurd (let no : ⊥ = omega arith in no)
    told (a ∷ b ∷ []) e = absurd (let no : ⊥ = omega arith in no)
    told (a ∷ b ∷ c ∷ []) e = absurd (let no : ⊥ = omega arith in no)
    told (a ∷ b ∷ c ∷ d ∷ f ∷ rest) e = absurd (let no : ⊥ = omega arith in no)
