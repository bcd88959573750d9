-- What a repair makes of a list that was pictured.
use Rattle.std.specs.Prelude.{ℕ, List, [], ◌∷◌, length, map, Bool, Option, Some, None, if◌then◌else◌}
use Rattle.inverted_list.specs.declared.picture.Picture.{Picture}
use Rattle.gc_splice.specs.declared.repair.BlockRepair.{BlockRepair}
use Rattle.gc_splice.specs.declared.repair.BlockRepair.TheVariants.{Same, Gone, Changed}
use Rattle.gc_splice.specs.declared.repair.Repair.{Repair}
use Rattle.gc_splice.specs.Alive.{alive, all_alive}

module _ {P : Type 0} where
  -- what becomes of a block, and none where it goes
  abbrev pub block_after : List (ℕ × P) → BlockRepair P → Option (List (ℕ × P))
  block_after b Same = Some b
  block_after b Gone = None
  block_after b (Changed c) = Some c

  -- a block that is written anew with these entries, and goes where there are none
  abbrev pub changed_to : List (ℕ × P) → BlockRepair P
  changed_to [] = Gone
  changed_to (e ∷ es) = Changed (e ∷ es)

  -- a block without its dead entries
  abbrev pub repair_of_block : (ℕ → Bool) → List (ℕ × P) → BlockRepair P
  repair_of_block live b = if all_alive live b then Same else changed_to (alive live b)

  -- a picture without its dead entries
  abbrev pub repaired : (ℕ → Bool) → Picture P → Repair P
  repaired live p = record {
    seen = p.marker;
    sealed = map (repair_of_block live) p.sealed;
    tail = alive live p.tail;
    tail_len = length p.tail;
  }
