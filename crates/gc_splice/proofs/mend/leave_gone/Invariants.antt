use Rattle.std.proofs.Common.{◌≡◌, take, length}
use Rattle.gc_splice.proofs.mend.leave_gone.Given as goal

abbrev pub invariant-each : goal.invariant-each
invariant-each g l = (take l.kept l.blocks.items ≡ take l.kept l.initial.blocks.items) × (length l.repairs ≡ length l.initial.repairs)
