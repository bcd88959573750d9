-- Ids that a union has read ahead, as bits.
use Rattle.std.specs.Prelude.{◌≡◌, ◌≤◌, ◌<◌, ◌+◌, ◌-◌, ◌*◌, ◌/◌, ◌%◌, ℕ, Bool, List, length, slice_index}
use Rattle.doc_table.specs.Pages.{bit_of}

-- words that follow each other with a bit for each id, the first of which has those from 64 times `start` on
pub record Stretch : Type 0 where
  pub start : ℕ
  pub words : List ℕ

-- the stretch has ids from its base on and below its limit
abbrev pub base_of : Stretch → ℕ
base_of stretch = 64 * stretch.start

abbrev pub limit_of : Stretch → ℕ
limit_of stretch = 64 * (stretch.start + length stretch.words)

-- whether the bit of an id is set; of an id below the base nothing is told
abbrev pub is_in : Stretch → ℕ → Bool
is_in stretch id = bit_of (slice_index stretch.words (id / 64 - stretch.start)) (id % 64)

-- The stretch tells of each id from `from` on, up to its limit, whether it passes.
pub record Tells (has : ℕ → Bool) (stretch : Stretch) (from : ℕ) : Type 0 where
  pub begins : base_of stretch ≤ from
  pub right : (id : ℕ) → from ≤ id → id < limit_of stretch → is_in stretch id ≡ has id
