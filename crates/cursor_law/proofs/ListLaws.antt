-- Lists whose keys rise, and lists that are filtered.
use Rattle.std.proofs.Common.{◌≡◌, ℕ, zero, suc, ◌<◌, ◌≤◌, ◌+◌, Bool, true, false, cond, ◌||◌, List, [], ◌∷◌, ◌++◌, filter, take, map, Contains, Some, None, refl, sym, ap, ◌∙◌, arith}
use Rattle.std.specs.List.{AllByRecursion, find}

pub or-cases : {P : Type 0} (a b : Bool) → (a || b) ≡ true → (a ≡ true → P) → (b ≡ true → P) → P
or-cases true b e f g = f refl
or-cases false b e f g = g e

module _ {X : Type 0} (key : X → ℕ) where
  -- the keys rise, from a low one on and below a high one
  abbrev pub Up : ℕ → ℕ → List X → Type 0
  Up low high [] = Unit {0}
  Up low high (x ∷ xs) = (low ≤ key x) × (key x < high) × Up (key x + 1) high xs

  pub up-lower : (low m high : ℕ) (xs : List X) → low ≤ m → Up m high xs → Up low high xs
  up-lower low m high [] le u = tt
  up-lower low m high (x ∷ xs) le u = (omega (arith, le, u.0), u.1, u.2)

  pub up-higher : (low high m : ℕ) (xs : List X) → high ≤ m → Up low high xs → Up low m xs
  up-higher low high m [] le u = tt
  up-higher low high m (x ∷ xs) le u = (u.0, omega (arith, le, u.1), up-higher (key x + 1) high m xs le u.2)

  pub up-filter : (test : X → Bool) (low high : ℕ) (xs : List X) → Up low high xs → Up low high (filter test xs)
  up-filter test low high [] u = tt
  up-filter test low high (x ∷ xs) u = pick (test x) (up-filter test (key x + 1) high xs u.2)
    where
      pick : (b : Bool) → Up (key x + 1) high (filter test xs) → Up low high (cond b (x ∷ filter test xs) (filter test xs))
      pick true more = (u.0, u.1, more)
      pick false more = up-lower low (key x + 1) high (filter test xs) (omega (arith, u.0)) more

  pub up-take : (n low high : ℕ) (xs : List X) → Up low high xs → Up low high (take n xs)
  up-take zero low high xs u = tt
  up-take (suc n) low high [] u = tt
  up-take (suc n) low high (x ∷ xs) u = (u.0, u.1, up-take n (key x + 1) high xs u.2)

  pub up-push : (low high : ℕ) (xs : List X) (x : X) → low ≤ high → key x ≡ high → Up low high xs → Up low (high + 1) (xs ++ x ∷ [])
  up-push low high [] x le is u = (omega (arith, le, is), omega (arith, is), tt)
  up-push low high (y ∷ xs) x le is u = (u.0, omega (arith, u.1), up-push (key y + 1) high xs x (omega (arith, u.1)) is u.2)

module _ {X : Type 0} where
  pub all-map : (P Q : X → Type 0) → ((x : X) → P x → Q x) → (xs : List X) → AllByRecursion P xs → AllByRecursion Q xs
  all-map P Q f [] all = tt
  all-map P Q f (x ∷ xs) all = (f x all.0, all-map P Q f xs all.1)

  pub all-filter : (P : X → Type 0) (test : X → Bool) (xs : List X) → AllByRecursion P xs → AllByRecursion P (filter test xs)
  all-filter P test [] all = tt
  all-filter P test (x ∷ xs) all = pick (test x) (all-filter P test xs all.1)
    where
      pick : (b : Bool) → AllByRecursion P (filter test xs) → AllByRecursion P (cond b (x ∷ filter test xs) (filter test xs))
      pick true more = (all.0, more)
      pick false more = more

  pub all-push : (P : X → Type 0) (xs : List X) (x : X) → AllByRecursion P xs → P x → AllByRecursion P (xs ++ x ∷ [])
  all-push P [] x all is = (is, tt)
  all-push P (y ∷ xs) x all is = (all.0, all-push P xs x all.1 is)

  there : (y x : X) (xs : List X) → Contains xs x → Contains (y ∷ xs) x
  there y x xs c = (suc c.0, omega (arith, c.1), c.2)

  -- the first ones that pass a test are among all
  pub first-ones : (test : X → Bool) (n : ℕ) (xs : List X) → AllByRecursion (Contains xs) (take n (filter test xs))
  first-ones test zero xs = tt
  first-ones test (suc n) [] = tt
  first-ones test (suc n) (x ∷ xs) = pick (test x) (λ m. all-map (Contains xs) (Contains (x ∷ xs)) (λ y. there x y xs) (take m (filter test xs)) (first-ones test m xs))
    where
      pick : (b : Bool) → ((m : ℕ) → AllByRecursion (Contains (x ∷ xs)) (take m (filter test xs))) → AllByRecursion (Contains (x ∷ xs)) (take (suc n) (cond b (x ∷ filter test xs) (filter test xs)))
      pick true more = ((0, omega arith, refl), more n)
      pick false more = more (suc n)

  -- tests may change places
  pub filter-swap : (p q : X → Bool) (xs : List X) → filter p (filter q xs) ≡ filter q (filter p xs)
  filter-swap p q [] = refl
  filter-swap p q (x ∷ xs) = pick (p x) (q x) refl refl (filter-swap p q xs)
    where
      pick : (b c : Bool) → p x ≡ b → q x ≡ c → filter p (filter q xs) ≡ filter q (filter p xs) → filter p (cond c (x ∷ filter q xs) (filter q xs)) ≡ filter q (cond b (x ∷ filter p xs) (filter p xs))
      pick true true is it same = ap (λ b. cond b (x ∷ filter p (filter q xs)) (filter p (filter q xs))) is ∙ (ap (λ l. x ∷ l) same ∙ sym (ap (λ b. cond b (x ∷ filter q (filter p xs)) (filter q (filter p xs))) it))
      pick true false is it same = same ∙ sym (ap (λ b. cond b (x ∷ filter q (filter p xs)) (filter q (filter p xs))) it)
      pick false true is it same = ap (λ b. cond b (x ∷ filter p (filter q xs)) (filter p (filter q xs))) is ∙ same
      pick false false is it same = same

  pub filter-append : (p : X → Bool) (xs ys : List X) → filter p (xs ++ ys) ≡ filter p xs ++ filter p ys
  filter-append p [] ys = refl
  filter-append p (x ∷ xs) ys = pick (p x) (filter-append p xs ys)
    where
      pick : (b : Bool) → filter p (xs ++ ys) ≡ filter p xs ++ filter p ys → cond b (x ∷ filter p (xs ++ ys)) (filter p (xs ++ ys)) ≡ cond b (x ∷ filter p xs) (filter p xs) ++ filter p ys
      pick true same = ap (λ l. x ∷ l) same
      pick false same = same

  -- a change that no test sees
  pub filter-map : (p : X → Bool) (f : X → X) → ((x : X) → p (f x) ≡ p x) → (xs : List X) → filter p (map f xs) ≡ map f (filter p xs)
  filter-map p f same [] = refl
  filter-map p f same (x ∷ xs) = ap (λ b. cond b (f x ∷ filter p (map f xs)) (filter p (map f xs))) (same x) ∙ pick (p x) (filter-map p f same xs)
    where
      pick : (b : Bool) → filter p (map f xs) ≡ map f (filter p xs) → cond b (f x ∷ filter p (map f xs)) (filter p (map f xs)) ≡ map f (cond b (x ∷ filter p xs) (filter p xs))
      pick true is = ap (λ l. f x ∷ l) is
      pick false is = is

  pub find-none : (p : X → Bool) (xs : List X) → filter p xs ≡ [] → find p xs ≡ None
  find-none p [] is = refl
  find-none p (x ∷ xs) is = pick (p x) is (find-none p xs)
    where
      pick : (b : Bool) → cond b (x ∷ filter p xs) (filter p xs) ≡ [] → (filter p xs ≡ [] → find p xs ≡ None) → cond b (Some x) (find p xs) ≡ None
      pick true it again = absurd (let bad : ⊥ = cc in bad)
      pick false it again = again it

  pub find-some : (p : X → Bool) (xs : List X) (y : X) → filter p xs ≡ y ∷ [] → find p xs ≡ Some y
  find-some p [] y is = absurd (let bad : ⊥ = cc in bad)
  find-some p (x ∷ xs) y is = pick (p x) is (find-some p xs y)
    where
      pick : (b : Bool) → cond b (x ∷ filter p xs) (filter p xs) ≡ y ∷ [] → (filter p xs ≡ y ∷ [] → find p xs ≡ Some y) → cond b (Some x) (find p xs) ≡ Some y
      pick true it again = let same : x ≡ y = cc in ap (λ z. Some z) same
      pick false it again = again it

  -- what is left passes the test
  pub filter-passes : (p : X → Bool) (xs : List X) (y : X) → filter p xs ≡ y ∷ [] → p y ≡ true
  filter-passes p [] y is = absurd (let bad : ⊥ = cc in bad)
  filter-passes p (x ∷ xs) y is = pick (p x) refl is (filter-passes p xs y)
    where
      pick : (b : Bool) → p x ≡ b → cond b (x ∷ filter p xs) (filter p xs) ≡ y ∷ [] → (filter p xs ≡ y ∷ [] → p y ≡ true) → p y ≡ true
      pick true passes it again = let same : x ≡ y = cc in ap p (sym same) ∙ passes
      pick false fails it again = again it
