use Rattle.std.proofs.Common.{◌≡◌, take, true}
use Rattle.inverted_list.specs.Blocks.{joined}
use Rattle.gc_splice.specs.Alive.{all_alive}
use Rattle.gc_splice.proofs.blocks.first_dead.Given as goal

abbrev pub invariant-each : goal.invariant-each
invariant-each g l = all_alive (g.L.Live.is l.live) (joined (take l.i l.blocks)) ≡ true
