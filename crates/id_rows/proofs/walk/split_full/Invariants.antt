use Rattle.std.proofs.Common.{◌≡◌, length}
use Rattle.id_rows.specs.Walk.{things}
use Rattle.id_rows.proofs.walk.split_full.Given as goal

abbrev pub invariant-passing : goal.invariant-passing
invariant-passing g l = things g.T.HasId.id_of l.left ≡ things g.T.HasId.id_of l.rows

abbrev pub decreases-passing : goal.decreases-passing
decreases-passing g l = length l.left
