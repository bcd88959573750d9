use Rattle.std.proofs.Common.{◌≡◌, take, map}
use Rattle.gc_splice.specs.Repaired.{repair_of_block}
use Rattle.gc_splice.proofs.blocks.repairs_before.Given as goal

abbrev pub invariant-each : goal.invariant-each
invariant-each g l = l.repairs.items ≡ map (repair_of_block (g.L.Live.is l.live)) (take l._i l.blocks)
