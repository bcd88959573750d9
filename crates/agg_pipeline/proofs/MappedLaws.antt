-- A list whose items are changed one after another.
use Rattle.std.proofs.Common.{◌≡◌, ℕ, zero, suc, ◌+◌, ◌<◌, List, [], ◌∷◌, ◌++◌, map, length, get_or, set, take, drop, refl, ap, ◌∙◌, add-one, arith}

module _ {X : Type 0} (f : X → X) where
  -- a list whose first items are changed
  abbrev pub mapped : ℕ → List X → List X
  mapped i xs = map f (take i xs) ++ drop i xs

  mapped-get : (xs : List X) (i : ℕ) (d : X) → get_or (mapped i xs) i d ≡ get_or xs i d
  mapped-get [] zero d = refl
  mapped-get [] (suc i) d = refl
  mapped-get (x ∷ xs) zero d = refl
  mapped-get (x ∷ xs) (suc i) d = mapped-get xs i d

  mapped-set : (xs : List X) (i : ℕ) (d : X) → i < length xs → set (mapped i xs) i (f (get_or xs i d)) ≡ mapped (suc i) xs
  mapped-set [] i d within = absurd (omega (arith, within))
  mapped-set (x ∷ xs) zero d within = refl
  mapped-set (x ∷ xs) (suc i) d within = ap (λ rest. f x ∷ rest) (mapped-set xs i d (omega (arith, within)))

  -- the next item is changed too
  pub mapped-next : (xs now : List X) (i : ℕ) (x d : X) → i < length xs → now ≡ mapped i xs → x ≡ f (get_or now i d) → set now i x ≡ mapped (i + 1) xs
  mapped-next xs now i x d within same is =
      let same_item : get_or now i d ≡ get_or xs i d = ap (λ ys. get_or ys i d) same ∙ mapped-get xs i d in
      rw (same, is, same_item, add-one) (mapped-set xs i d within)
