-- What a caller may rely on of the numbers of a cursor.
use Rattle.std.specs.Prelude.{◌<◌, ◌≤◌, ◌^◌, ℕ}
use Rattle.cmd_parse.specs.AggregateWords.{most_count, most_idle}
use Rattle.cmd_parse.specs.declared.aggregate_words.CursorSpec.{CursorSpec}

-- an id is a number of 63 bits
abbrev pub IsId : ℕ → Type 0
IsId id = id < 2 ^ 63

-- a number from 1 up to a limit
abbrev pub IsLimited : ℕ → ℕ → Type 0
IsLimited most n = (1 ≤ n) × (n ≤ most)

-- how many rows a read gives at the most
abbrev pub IsCount : ℕ → Type 0
IsCount count = IsLimited most_count count

-- The numbers of WITHCURSOR are within their limits.
pub record IsLawfulCursor (cursor : CursorSpec) : Type 0 where
  pub count : IsCount cursor.count
  pub max_idle : IsLimited most_idle cursor.max_idle
