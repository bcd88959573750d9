-- Least numbers.
use Rattle.std.proofs.Common.{◌≡◌, ℕ, ◌<◌, ◌≤◌, ◌+◌, Bool, true, false, ◌&&◌, refl, arith, subst}
use Rattle.std.proofs.lemmas.Bool.{ltb-true, ltb-false, false≢true}
use lib.Dec.{ltb}
use Rattle.id_iters.specs.Least.{IsLeastAt, NoneFrom, NoneBetween}

pub none_here : (p : ℕ → Bool) (from : ℕ) → NoneBetween p from from
none_here p from = record { fails = λ id low high. absurd (omega (arith, low, high)) }

by_place : (from mid id : ℕ) {P : Type 0} → (id < mid → P) → (mid ≤ id → P) → P
by_place from mid id {P} below above = pick (ltb id mid) refl
  where
    pick : (b : Bool) → ltb id mid ≡ b → P
    pick true e = below (ltb-true id mid e)
    pick false e = above (ltb-false id mid e)

-- none up to the middle and none from there on
pub none_joined : (p : ℕ → Bool) (from mid : ℕ) → NoneBetween p from mid → NoneFrom p mid → NoneFrom p from
none_joined p from mid a b = record { fails = λ id low. by_place from mid id (λ h. a.fails id low h) (λ h. b.fails id h) }

pub none_longer : (p : ℕ → Bool) (from mid to : ℕ) → NoneBetween p from mid → NoneBetween p mid to → NoneBetween p from to
none_longer p from mid to a b = record { fails = λ id low high. by_place from mid id (λ h. a.fails id low h) (λ h. b.fails id h high) }

pub least_joined : (p : ℕ → Bool) (from mid n : ℕ) → from ≤ mid → NoneBetween p from mid → IsLeastAt p mid n → IsLeastAt p from n
least_joined p from mid n low a b = record { reached = omega (arith, low, b.reached); passes = b.passes; below = none_longer p from mid n a b.below }

pub none_part : (p q : ℕ → Bool) (from to : ℕ) → ((id : ℕ) → q id ≡ false → p id ≡ false) → NoneBetween q from to → NoneBetween p from to
none_part p q from to sub a = record { fails = λ id low high. sub id (a.fails id low high) }

pub none_part_from : (p q : ℕ → Bool) (from : ℕ) → ((id : ℕ) → q id ≡ false → p id ≡ false) → NoneFrom q from → NoneFrom p from
none_part_from p q from sub a = record { fails = λ id low. sub id (a.fails id low) }

pub none_one : (p : ℕ → Bool) (n : ℕ) → p n ≡ false → NoneBetween p n (n + 1)
none_one p n e = record { fails = λ id low high. subst (λ k. p k ≡ false) (same id low high) e }
  where
    same : (id : ℕ) → n ≤ id → id < n + 1 → n ≡ id
    same id low high = omega (arith, low, high)

pub and_right : (a b : Bool) → b ≡ false → (a && b) ≡ false
and_right true b e = e
and_right false b e = refl

pub and_left : (a b : Bool) → a ≡ false → (a && b) ≡ false
and_left a b e = rw e refl

pub and_both : (a b : Bool) → a ≡ true → b ≡ true → (a && b) ≡ true
and_both a b p q = rw (p, q) refl

pub and_first : (a b : Bool) → (a && b) ≡ true → a ≡ true
and_first true b e = refl
and_first false b e = e

pub and_second : (a b : Bool) → (a && b) ≡ true → b ≡ true
and_second true b e = e
and_second false b e = absurd (false≢true e)

-- One more number that fails, with none that passes before it.
pub none_step : (p : ℕ → Bool) (from mid n : ℕ) → NoneBetween p from mid → NoneBetween p mid n → p n ≡ false → NoneBetween p from (n + 1)
none_step p from mid n a b e = none_longer p from n (n + 1) (none_longer p from mid n a b) (none_one p n e)
