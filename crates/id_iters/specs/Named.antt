-- The names of the lists of an index, and the numbers that its live documents are sorted by.
use Rattle.std.specs.Prelude.{◌&&◌, ℕ, zero, suc, Bool, false, ℤ, int_le, int_lt, List, [], ◌∷◌, Option}
use Rattle.std.specs.List.{list_all}

-- the words that have lists and the tags of a field that do, in their order; where the ranges of a field begin, in theirs;
-- and by the id of a live document and a place the number there of its sorting vector
pub record Named : Type 0 where
  pub words : List (List ℕ)
  pub tags : ℕ → List (List ℕ)
  pub lows : ℕ → List ℤ
  pub numbers : ℕ → ℕ → Option ℤ

-- whether a number lies in the range at a place: not below its low, and below the lows of those behind it
abbrev pub lies_at : List ℤ → ℕ → ℤ → Bool
lies_at [] place number = false
lies_at (low ∷ lows) zero number = int_le low number && list_all (int_lt number) lows
lies_at (low ∷ lows) (suc place) number = lies_at lows place number
