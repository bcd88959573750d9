-- The least number that passes a test.
use Rattle.std.specs.Prelude.{◌≡◌, ℕ, ◌<◌, ◌≤◌, Bool, true, false, Option, Some, None, nat_le, if◌then◌else◌}

-- no number from `from` on and below `to` passes
pub record NoneBetween (p : ℕ → Bool) (from to : ℕ) : Type 0 where
  pub fails : (id : ℕ) → from ≤ id → id < to → p id ≡ false

-- no number from `from` on passes
pub record NoneFrom (p : ℕ → Bool) (from : ℕ) : Type 0 where
  pub fails : (id : ℕ) → from ≤ id → p id ≡ false

-- the number passes, and none from `from` on and below it does
pub record IsLeastAt (p : ℕ → Bool) (from n : ℕ) : Type 0 where
  pub reached : from ≤ n
  pub passes : p n ≡ true
  pub below : NoneBetween p from n

-- The answer is the least number from `from` on that passes, or that there is none.
abbrev pub IsLeast : (ℕ → Bool) → ℕ → Option ℕ → Type 0
IsLeast p from None = NoneFrom p from
IsLeast p from (Some n) = IsLeastAt p from n

-- the lesser of two answers
abbrev pub lesser_of : Option ℕ → Option ℕ → Option ℕ
lesser_of None other = other
lesser_of (Some n) None = Some n
lesser_of (Some n) (Some other) = Some (if nat_le n other then n else other)
