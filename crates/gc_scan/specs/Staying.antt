-- Blocks that a repair leaves as they are.
use Rattle.std.specs.Prelude.{Bool, true, false}
use Rattle.gc_splice.specs.declared.repair.BlockRepair.{BlockRepair}
use Rattle.gc_splice.specs.declared.repair.BlockRepair.TheVariants.{Same}

module _ {P : Type 0} where
  -- whether the block stays as it is
  abbrev pub stays : BlockRepair P → Bool
  stays Same = true
  stays _ = false
