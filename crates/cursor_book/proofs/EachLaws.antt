-- What holds of each item of a list, and tests that agree on each.
use Rattle.std.proofs.Common.{◌≡◌, Bool, true, false, List, [], ◌∷◌, ◌++◌, map, ◌&&◌, refl, ap, ◌∙◌, inl, inr}
use Rattle.std.specs.Prelude.{filter}
use Rattle.std.specs.List.{AllByRecursion, find}
use Rattle.std.proofs.lemmas.Bool.{cases_Bool}

module _ {X : Type 0} where
  pub each-filter : (P : X → Type 0) (p : X → Bool) (xs : List X) → AllByRecursion P xs → AllByRecursion P (filter p xs)
  each-filter P p [] all = tt
  each-filter P p (x ∷ xs) all =
      elim (cases_Bool (p x)) [
        | inl holds ↦ rw holds (all.0, each-filter P p xs all.1)
        | inr fails ↦ rw fails (each-filter P p xs all.1)
      ]

  pub each-weaker : (P Q : X → Type 0) → ((x : X) → P x → Q x) → (xs : List X) → AllByRecursion P xs → AllByRecursion Q xs
  each-weaker P Q weaker [] all = tt
  each-weaker P Q weaker (x ∷ xs) all = (weaker x all.0, each-weaker P Q weaker xs all.1)

  pub each-append : (P : X → Type 0) (xs ys : List X) → AllByRecursion P xs → AllByRecursion P ys → AllByRecursion P (xs ++ ys)
  each-append P [] ys all others = others
  each-append P (x ∷ xs) ys all others = (all.0, each-append P xs ys all.1 others)

  pub each-left : (P : X → Type 0) (xs ys : List X) → AllByRecursion P (xs ++ ys) → AllByRecursion P xs
  each-left P [] ys all = tt
  each-left P (x ∷ xs) ys all = (all.0, each-left P xs ys all.1)

  pub each-right : (P : X → Type 0) (xs ys : List X) → AllByRecursion P (xs ++ ys) → AllByRecursion P ys
  each-right P [] ys all = all
  each-right P (x ∷ xs) ys all = each-right P xs ys all.1

  pub each-map : (P : X → Type 0) (f : X → X) → ((x : X) → P x → P (f x)) → (xs : List X) → AllByRecursion P xs → AllByRecursion P (map f xs)
  each-map P f keeps [] all = tt
  each-map P f keeps (x ∷ xs) all = (keeps x all.0, each-map P f keeps xs all.1)

  -- what a filter keeps passes
  pub each-passes : (p : X → Bool) (xs : List X) → AllByRecursion (λ x. p x ≡ true) (filter p xs)
  each-passes p [] = tt
  each-passes p (x ∷ xs) =
      elim (cases_Bool (p x)) [
        | inl holds ↦ rw holds (holds, each-passes p xs)
        | inr fails ↦ rw fails (each-passes p xs)
      ]

  -- tests that agree on each item keep the same items
  pub filter-same : (p q : X → Bool) (xs : List X) → AllByRecursion (λ x. p x ≡ q x) xs → filter p xs ≡ filter q xs
  filter-same p q [] all = refl
  filter-same p q (x ∷ xs) all =
      elim (cases_Bool (q x)) [
        | inl holds ↦ rw (all.0, holds) (ap (λ (items : List X). x ∷ items) (filter-same p q xs all.1))
        | inr fails ↦ rw (all.0, fails) (filter-same p q xs all.1)
      ]

  pub filter-all : (p : X → Bool) (xs : List X) → AllByRecursion (λ x. p x ≡ true) xs → filter p xs ≡ xs
  filter-all p [] all = refl
  filter-all p (x ∷ xs) all = rw all.0 (ap (λ (items : List X). x ∷ items) (filter-all p xs all.1))

  pub filter-none : (p : X → Bool) (xs : List X) → AllByRecursion (λ x. p x ≡ false) xs → filter p xs ≡ []
  filter-none p [] all = refl
  filter-none p (x ∷ xs) all = rw all.0 (filter-none p xs all.1)

  -- changes that agree on each item make the same list
  pub map-same : (f g : X → X) (xs : List X) → AllByRecursion (λ x. f x ≡ g x) xs → map f xs ≡ map g xs
  map-same f g [] all = refl
  map-same f g (x ∷ xs) all = ap (λ (first : X). first ∷ map f xs) all.0 ∙ ap (λ (items : List X). g x ∷ items) (map-same f g xs all.1)

  pub map-none : (f : X → X) (xs : List X) → AllByRecursion (λ x. f x ≡ x) xs → map f xs ≡ xs
  map-none f [] all = refl
  map-none f (x ∷ xs) all = ap (λ (first : X). first ∷ map f xs) all.0 ∙ ap (λ (items : List X). x ∷ items) (map-none f xs all.1)

  -- filters may change places
  pub filter-filter : (p q : X → Bool) (xs : List X) → filter p (filter q xs) ≡ filter q (filter p xs)
  filter-filter p q [] = refl
  filter-filter p q (x ∷ xs) =
      elim (cases_Bool (p x)) [
        | inl holds ↦ elim (cases_Bool (q x)) [
          | inl both ↦ rw (holds, both, holds) (ap (λ (items : List X). x ∷ items) (filter-filter p q xs))
          | inr one ↦ rw (holds, one) (filter-filter p q xs)
        ]
        | inr fails ↦ elim (cases_Bool (q x)) [
          | inl other ↦ rw (fails, other, fails) (filter-filter p q xs)
          | inr none ↦ rw (fails, none) (filter-filter p q xs)
        ]
      ]

  -- the first that passes two tests is the first of those that pass one of them
  pub find-filter : (p q : X → Bool) (xs : List X) → find (λ x. p x && q x) xs ≡ find q (filter p xs)
  find-filter p q [] = refl
  find-filter p q (x ∷ xs) =
      elim (cases_Bool (p x)) [
        | inl holds ↦ elim (cases_Bool (q x)) [
          | inl both ↦ rw (holds, both) refl
          | inr one ↦ rw (holds, one) (find-filter p q xs)
        ]
        | inr fails ↦ rw fails (find-filter p q xs)
      ]

  pub find-kept : (p : X → Bool) (xs : List X) → find p (filter p xs) ≡ find p xs
  find-kept p [] = refl
  find-kept p (x ∷ xs) =
      elim (cases_Bool (p x)) [
        | inl holds ↦ rw (holds, holds) refl
        | inr fails ↦ rw fails (find-kept p xs)
      ]
