use Rattle.std.proofs.Common.{◌≡◌, take, drop, length}
use Rattle.gc_splice.specs.Written.{Written}
use Rattle.gc_splice.proofs.mend.mend_first.Given as goal

abbrev pub invariant-each : goal.invariant-each
invariant-each g l = Written l.initial.blocks.items (take l.i l.initial.repairs) l.i l.kept l.blocks.items
    × (drop l.i l.repairs ≡ drop l.i l.initial.repairs)
    × (length l.repairs ≡ length l.initial.repairs)
