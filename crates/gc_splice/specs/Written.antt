-- The blocks of a list while a repair is laid over them in place.
use Rattle.std.specs.Prelude.{◌≡◌, ◌≤◌, ℕ, List, length, take, drop}
use Rattle.gc_splice.specs.declared.repair.BlockRepair.{BlockRepair}
use Rattle.gc_splice.specs.Splice.{mended}

-- Of the blocks `start` the first `i` are repaired as `taken` says: what stays of them are the first `kept` blocks. The
-- blocks from `i` on stand as they stood, and between them lie those that went, in any order.
pub record Written {P : Type 0} (start : List (List (ℕ × P))) (taken : List (BlockRepair P)) (i kept : ℕ) (bs : List (List (ℕ × P))) : Type 0 where
  pub few : kept ≤ i
  pub first : take kept bs ≡ mended taken (take i start)
  pub behind : drop i bs ≡ drop i start
  pub len : length bs ≡ length start
