use Rattle.std.proofs.Common.{◌≡◌, ◌≤◌, List, ℕ, length}
use Rattle.gc_splice.specs.declared.repair.BlockRepair.{BlockRepair}
use Rattle.gc_splice.specs.Written.{Written}
use Rattle.gc_splice.proofs.mend.keep_behind.Given as goal

abbrev pub invariant-each : goal.invariant-each
invariant-each g l = (l.kept ≤ l.i)
    × (length l.blocks.items ≡ length l.initial.blocks.items)
    × ((start : List (List (ℕ × g.row.P.Denot))) → (taken : List (BlockRepair g.row.P.Denot)) → length taken ≡ l.from
    → Written start taken l.from l.initial.kept l.initial.blocks.items → Written start taken l.i l.kept l.blocks.items)
