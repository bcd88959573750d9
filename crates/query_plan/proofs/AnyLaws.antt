-- Whether some item of a list passes a test, also one that asks for the item's number.
use Rattle.std.proofs.Common.{◌≡◌, ℕ, zero, suc, ◌<◌, ◌+◌, Bool, true, false, ◌&&◌, ◌||◌, eqb, List, [], ◌∷◌, filter, Option, Some, None, refl, sym, ap, ◌∙◌, inl, inr, arith}
use Rattle.std.specs.List.{list_any, slice_get, filter_map, cons_option}
use Rattle.query_plan.specs.Sought.{passes}
use Rattle.std.proofs.Math.Bool.{or-false}
use Rattle.std.proofs.lemmas.Bool.{cases_Bool, false≢true}
use Rattle.std.proofs.lemmas.Bool.Decides.{nat_tests}

pub any_cong : {X : Type 0} (f g : X → Bool) (xs : List X) → ((x : X) → f x ≡ g x) → list_any f xs ≡ list_any g xs
any_cong f g [] same = refl
any_cong f g (x ∷ xs) same = ap (λ b. b || list_any f xs) (same x) ∙ ap (λ b. g x || b) (any_cong f g xs same)

pub any_none : {X : Type 0} (xs : List X) → list_any (λ x. false) xs ≡ false
any_none [] = refl
any_none (x ∷ xs) = any_none xs

pub or_swap : (a b c d : Bool) → ((a || b) || (c || d)) ≡ ((a || c) || (b || d))
or_swap true b c d = refl
or_swap false true true d = refl
or_swap false true false d = refl
or_swap false false c d = refl

pub any_or : {X : Type 0} (f g : X → Bool) (xs : List X) → list_any (λ x. f x || g x) xs ≡ (list_any f xs || list_any g xs)
any_or f g [] = refl
any_or f g (x ∷ xs) = ap (λ b. (f x || g x) || b) (any_or f g xs) ∙ or_swap (f x) (g x) (list_any f xs) (list_any g xs)

-- two lists may be asked in either order
pub any_swap : {X Y : Type 0} (f : X → Y → Bool) (xs : List X) (ys : List Y) → list_any (λ x. list_any (f x) ys) xs ≡ list_any (λ y. list_any (λ x. f x y) xs) ys
any_swap f [] ys = sym (any_none ys)
any_swap f (x ∷ xs) ys = ap (λ b. list_any (f x) ys || b) (any_swap f xs ys) ∙ sym (any_or (f x) (λ y. list_any (λ x. f x y) xs) ys)

-- what a filter drops does not pass
pub any_filter : {X : Type 0} (f p : X → Bool) (xs : List X) → ((x : X) → p x ≡ false → f x ≡ false) → list_any f (filter p xs) ≡ list_any f xs
any_filter f p [] drops = refl
any_filter f p (x ∷ xs) drops =
    elim (cases_Bool (p x)) [
      | inl y ↦ rw y (ap (λ b. f x || b) (any_filter f p xs drops))
      | inr n ↦ rw (n, drops x n) (any_filter f p xs drops)
    ]

-- what some item passes and what it asks for
pub any_some : {X : Type 0} (f : X → Bool) (xs : List X) → list_any f xs ≡ true → (P : Type 0) → ((x : X) → list_any (λ y. f y) xs ≡ true → f x ≡ true → P) → P
any_some f [] some P next = absurd (false≢true some)
any_some f (x ∷ xs) some P next =
    elim (cases_Bool (f x)) [
      | inl y ↦ next x some y
      | inr n ↦
          let rest : list_any f xs ≡ true = rw n at some in
          any_some f xs rest P (λ z h e. next z some e)
    ]

-- whether some item passes a test with its number, the first item having this number
abbrev pub any_from : {X : Type 0} → ℕ → (ℕ → X → Bool) → List X → Bool
any_from n f [] = false
any_from n f (x ∷ xs) = f n x || any_from (suc n) f xs

pub from_cong : {X : Type 0} (f g : ℕ → X → Bool) (n : ℕ) (xs : List X)
    → ((k m : ℕ) (x : X) → slice_get xs k ≡ Some x → m ≡ n + k → f m x ≡ g m x) → any_from n f xs ≡ any_from n g xs
from_cong f g n [] same = refl
from_cong f g n (x ∷ xs) same =
    ap (λ b. b || any_from (suc n) f xs) (same 0 n x refl (omega arith))
    ∙ ap (λ b. g n x || b) (from_cong f g (suc n) xs (λ k m y at is. same (suc k) m y at (omega (arith, is))))

pub from_or : {X : Type 0} (f g : ℕ → X → Bool) (n : ℕ) (xs : List X) → any_from n (λ k x. f k x || g k x) xs ≡ (any_from n f xs || any_from n g xs)
from_or f g n [] = refl
from_or f g n (x ∷ xs) = ap (λ b. (f n x || g n x) || b) (from_or f g (suc n) xs) ∙ or_swap (f n x) (g n x) (any_from (suc n) f xs) (any_from (suc n) g xs)

-- a test that does not ask for the number
pub from_any : {X : Type 0} (q : X → Bool) (n : ℕ) (xs : List X) → any_from n (λ k x. q x) xs ≡ list_any q xs
from_any q n [] = refl
from_any q n (x ∷ xs) = ap (λ b. q x || b) (from_any q (suc n) xs)

pub from_none : {X : Type 0} (n : ℕ) (xs : List X) → any_from n (λ k x. false) xs ≡ false
from_none n [] = refl
from_none n (x ∷ xs) = from_none (suc n) xs

-- ---- the items of some numbers

passed : {X : Type 0} (q : X → Bool) (n number : ℕ) (xs : List X) → number < n → any_from n (λ k x. eqb number k && q x) xs ≡ false
passed q n number [] before = refl
passed q n number (x ∷ xs) before =
    let other : eqb number n ≡ false = grind (arith, nat_tests) in
    rw other (passed q (suc n) number xs (omega (arith, before)))

one_named : {X : Type 0} (q : X → Bool) (n m number : ℕ) (xs : List X) → number ≡ n + m → any_from n (λ k x. eqb number k && q x) xs ≡ passes q (slice_get xs m)
one_named q n m number [] is = refl
one_named q n zero number (x ∷ xs) is =
    let here : eqb number n ≡ true = grind (arith, nat_tests) in
    rw (here, passed q (suc n) number xs (omega (arith, is))) (or-false (q x))
one_named q n (suc m) number (x ∷ xs) is =
    let other : eqb number n ≡ false = grind (arith, nat_tests) in
    rw other (one_named q (suc n) m number xs (omega (arith, is)))

any_cons_option : {X : Type 0} (q : X → Bool) (o : Option X) (xs : List X) → list_any q (cons_option o xs) ≡ (passes q o || list_any q xs)
any_cons_option q None xs = refl
any_cons_option q (Some x) xs = refl

pub or_and : (a b c : Bool) → ((a || b) && c) ≡ ((a && c) || (b && c))
or_and true b true = refl
or_and true true false = refl
or_and true false false = refl
or_and false b c = refl

-- the items of some numbers are those whose number is one of them
pub all_named : {X : Type 0} (q : X → Bool) (xs : List X) (numbers : List ℕ)
    → any_from 0 (λ k x. list_any (λ other. eqb other k) numbers && q x) xs ≡ list_any q (filter_map (slice_get xs) numbers)
all_named q xs [] = from_none 0 xs
all_named q xs (number ∷ numbers) =
    from_cong _ (λ k x. (eqb number k && q x) || (list_any (λ other. eqb other k) numbers && q x)) 0 xs
    (λ k m x at is. or_and (eqb number m) (list_any (λ other. eqb other m) numbers) (q x))
    ∙ from_or (λ k x. eqb number k && q x) (λ k x. list_any (λ other. eqb other k) numbers && q x) 0 xs
    ∙ ap (λ b. b || any_from 0 (λ k x. list_any (λ other. eqb other k) numbers && q x) xs) (one_named q 0 number number xs (omega arith))
    ∙ ap (λ b. passes q (slice_get xs number) || b) (all_named q xs numbers)
    ∙ sym (any_cons_option q (slice_get xs number) (filter_map (slice_get xs) numbers))

pub each_named : {X : Type 0} (q : X → Bool) (xs : List X) (numbers : List ℕ) → list_any (λ number. passes q (slice_get xs number)) numbers ≡ list_any q (filter_map (slice_get xs) numbers)
each_named q xs [] = refl
each_named q xs (number ∷ numbers) =
    ap (λ b. passes q (slice_get xs number) || b) (each_named q xs numbers) ∙ sym (any_cons_option q (slice_get xs number) (filter_map (slice_get xs) numbers))
