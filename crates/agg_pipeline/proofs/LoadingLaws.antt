-- One name more.
use Rattle.std.proofs.Common.{◌≡◌, ℕ, zero, suc, ◌+◌, ◌<◌, List, [], ◌∷◌, length, get_or, drop, ap, add-one, arith}
use Rattle.std.specs.Prelude.{fold}

fold-after : {A B : Type 0} (f : B → A → B) (a : B) (xs : List A) (i : ℕ) (x : A) → i < length xs → x ≡ get_or xs i x → fold f (f a x) (drop (suc i) xs) ≡ fold f a (drop i xs)
fold-after f a [] i x within is = absurd (omega (arith, within))
fold-after f a (y ∷ xs) zero x within is = ap (λ z. fold f (f a z) xs) is
fold-after f a (y ∷ xs) (suc i) x within is = fold-after f a xs i x (omega (arith, within)) is

-- to go on behind one item more
pub fold-next : {A B : Type 0} (f : B → A → B) (a : B) (xs : List A) (i : ℕ) (x : A) → i < length xs → x ≡ get_or xs i x → fold f (f a x) (drop (i + 1) xs) ≡ fold f a (drop i xs)
fold-next f a xs i x within is = rw add-one (fold-after f a xs i x within is)
