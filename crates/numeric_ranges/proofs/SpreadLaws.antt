-- What one more value changes in what is known of values.
use Rattle.std.proofs.Common.{◌≡◌, ℕ, ◌<◌, ◌≤◌, Bool, true, false, not, ◌||◌, ◌&&◌, length-append, [], ◌∷◌, ◌++◌, length, inl, inr, refl, sym, ap, subst, ◌∙◌, arith, ℤ}
use Rattle.std.specs.List.{AllByRecursion, list_any}
use Rattle.std.specs.Prelude.{nat_lt}
use Rattle.std.specs.Ordering.{int_eq}
use Rattle.std.proofs.lemmas.Bool.Decides.{nat_tests}
use Rattle.std.proofs.lemmas.Bool.{cases_Bool}
use Rattle.std.proofs.lemmas.List.Folds.{list_any-append}
use Rattle.posting_block.specs.declared.hits.NumHit.{NumHit}
use Rattle.numeric_ranges.specs.declared.spread.Spread.{Spread}
use Rattle.numeric_ranges.specs.declared.spread.Spread.TheVariants.{Unknown, Empty, One, Many}
use Rattle.numeric_ranges.specs.Rows.{Knows}
use Rattle.numeric_ranges.specs.Values.{Entries, are_mixed, splits}
use Rattle.numeric_ranges.proofs.ValueLaws.{eq_true, eq_same}

or_true : (b : Bool) → (b || true) ≡ true
or_true true = refl
or_true false = refl

apart_test : (a b : ℤ) → ¬ (a ≡ b) → int_eq b a ≡ false
apart_test a b apart = elim (cases_Bool (int_eq b a)) [
  | inl y ↦ absurd (apart (sym (eq_true b a y)))
  | inr n ↦ n
]

-- a value that differs from all others
pub mixed_more : (es : Entries) (id : ℕ) (u v : ℤ) → 0 < length es → AllByRecursion (λ e. e.1.value ≡ u) es → ¬ (u ≡ v)
    → are_mixed (es ++ (id, record { value = v }) ∷ []) ≡ true
mixed_more [] id u v some all apart = absurd (omega (arith, some))
mixed_more (e ∷ es) id u v some all apart =
    let other : ℕ × NumHit → Bool = λ o. not (int_eq o.1.value e.1.value) in
    let differs : int_eq v e.1.value ≡ false = ap (int_eq v) all.0 ∙ apart_test u v apart in
    list_any-append other es ((id, record { value = v }) ∷ [])
    ∙ (ap (λ b. list_any other es || (not b || false)) differs ∙ or_true (list_any other es))

-- what is known along an equation of entries
pub knows_along : (s : Spread) (a b : Entries) → a ≡ b → Knows s a → Knows s b
knows_along s a b same k = subst (Knows s) same k

none_differs : (v u : ℤ) (es : Entries) → v ≡ u → AllByRecursion (λ e. e.1.value ≡ u) es → list_any (λ other. not (int_eq other.1.value v)) es ≡ false
none_differs v u [] same all = refl
none_differs v u (e ∷ es) same all =
    let here : int_eq e.1.value v ≡ true = subst (λ w. int_eq w v ≡ true) (same ∙ sym all.0) (eq_same v) in
    ap (λ b. not b || list_any (λ other. not (int_eq other.1.value v)) es) here ∙ none_differs v u es same all.1

-- what is known, and is not that values differ, says that they do not
pub not_mixed : (s : Spread) (es : Entries) → Knows s es → ¬ (s ≡ Unknown) → ¬ (s ≡ Many) → are_mixed es ≡ false
not_mixed Unknown es k known apart = absurd (known refl)
not_mixed Empty es k known apart = ap are_mixed k
not_mixed (One v) [] k known apart = refl
not_mixed (One v) (e ∷ es) k known apart = none_differs e.1.value v es k.1.0 k.1.1
not_mixed Many es k known apart = absurd (apart refl)

pub split_yes : (es : Entries) (e : ℕ × NumHit) → 1024 ≤ length es → are_mixed (es ++ e ∷ []) ≡ true → splits (es ++ e ∷ []) ≡ true
split_yes es e long mixed = ap (λ b. nat_lt 1024 (length (es ++ e ∷ [])) && b) mixed ∙ (and_true _ ∙ long_test (length (es ++ e ∷ [])) (omega (arith, long, length-append es (e ∷ []))))
  where
    and_true : (b : Bool) → (b && true) ≡ b
    and_true true = refl
    and_true false = refl

    long_test : (n : ℕ) → 1024 < n → nat_lt 1024 n ≡ true
    long_test n h = grind (arith, nat_tests)

pub split_no : (es : Entries) → are_mixed es ≡ false → splits es ≡ false
split_no es mixed = ap (λ b. nat_lt 1024 (length es) && b) mixed ∙ and_false (nat_lt 1024 (length es))
  where
    and_false : (b : Bool) → (b && false) ≡ false
    and_false true = refl
    and_false false = refl
