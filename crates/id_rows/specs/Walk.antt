-- How the things of rows are given in turn.
use Rattle.std.specs.Prelude.{◌≡◌, ℕ, Option, None, Some, List, [], ◌∷◌}
use Rattle.std.specs.Borrow.{Bor}
use Rattle.std.specs.Map.{values_of}
use Rattle.id_rows.specs.declared.row.Row.{Row}
use Rattle.id_rows.specs.IdRows.{full_rows}

-- the things in full rows, in order of their ids
abbrev pub things : {T : Type 0} → (T → ℕ) → List (Row T) → List T
things id_of rows = values_of (full_rows id_of rows)

-- The first of the things that were left is given, where there is one, and the others are left.
abbrev pub IsNext : {T : Type 0} → List T → Option (Bor T) → List T → Type 0
IsNext left None rest = (left ≡ []) × (rest ≡ [])
IsNext left (Some thing) rest = left ≡ thing.now ∷ rest
