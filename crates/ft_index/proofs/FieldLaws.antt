-- What holds field by field, of the first so many fields.
use Rattle.std.proofs.Common.{◌≡◌, ◌≢◌, ◌⊎◌, ℕ, suc, zero, ◌+◌, ◌<◌, List, [], ◌∷◌, take, length, slice_index_or, refl, ap, sym, subst, inl, inr, ◌∙◌, add-one, arith, nat_eq, nat_lt, ◌≤◌, Option, None, Some}
use Rattle.std.proofs.lemmas.Bool.Decides.{nat_tests}
use Rattle.std.proofs.lemmas.Bool.{cases_Bool, eqb-true, eqb-false}
use Rattle.std.proofs.lemmas.Option.{slice_get-get_or}
use Rattle.std.specs.Prelude.{slice_get}

pub decided : (a b : ℕ) → (a ≡ b) ⊎ (a ≢ b)
decided a b = elim (cases_Bool (nat_eq a b)) [ inl y ↦ inl (eqb-true a b y) | inr n ↦ inr (eqb-false a b n) ]

pub below-or-not : (a b : ℕ) → (a < b) ⊎ (b ≤ a)
below-or-not a b = elim (cases_Bool (nat_lt a b)) [ inl y ↦ inl (grind (arith, nat_tests, y)) | inr n ↦ inr (grind (arith, nat_tests, n)) ]

module _ {X : Type 0} where
  pub get-taken : (k : ℕ) (xs : List X) → slice_get (take k xs) k ≡ None
  get-taken zero xs = refl
  get-taken (suc k) [] = refl
  get-taken (suc k) (x ∷ xs) = get-taken k xs

  get-next : (k : ℕ) (xs : List X) → slice_get (take (suc k) xs) k ≡ slice_get xs k
  get-next zero [] = refl
  get-next zero (x ∷ xs) = refl
  get-next (suc k) [] = refl
  get-next (suc k) (x ∷ xs) = get-next k xs

  get-others : (k other : ℕ) (xs : List X) → other ≢ k → slice_get (take (suc k) xs) other ≡ slice_get (take k xs) other
  get-others zero zero xs away = absurd (away refl)
  get-others zero (suc other) [] away = refl
  get-others zero (suc other) (x ∷ xs) away = refl
  get-others (suc k) zero [] away = refl
  get-others (suc k) zero (x ∷ xs) away = refl
  get-others (suc k) (suc other) [] away = refl
  get-others (suc k) (suc other) (x ∷ xs) away = get-others k other xs (λ is. away (ap suc is))

  -- what holds of the first k fields, and at number k of the one that is there, holds of one field more
  pub fields-next : (Q : ℕ → Option X → Type 0) (xs : List X) (k : ℕ) (x : X) → k < length xs → slice_index_or xs k x ≡ x → Q k (Some x)
      → ((other : ℕ) → other ≢ k → Q other (slice_get (take k xs) other)) → (number : ℕ) → Q number (slice_get (take (k + 1) xs) number)
  fields-next Q xs k x within here own others number = elim (decided number k) [
    | inl is ↦
        let there : slice_get (take (k + 1) xs) k ≡ Some x = rw add-one (get-next k xs ∙ (slice_get-get_or xs k x within ∙ ap Some here)) in
        subst (λ (n : ℕ). Q n (slice_get (take (k + 1) xs) n)) (sym is) (subst (Q k) (sym there) own)
    | inr away ↦
        let same : slice_get (take (k + 1) xs) number ≡ slice_get (take k xs) number = rw add-one (get-others k number xs away) in
        subst (Q number) (sym same) (others number away)
  ]

  pub get-beyond : (xs : List X) (number : ℕ) → length xs ≤ number → slice_get xs number ≡ None
  get-beyond [] zero past = refl
  get-beyond [] (suc number) past = refl
  get-beyond (x ∷ xs) zero past = absurd (omega (arith, past))
  get-beyond (x ∷ xs) (suc number) past = get-beyond xs number (omega (arith, past))
