use Rattle.std.proofs.Common.{◌<◌, ◌≤◌, ◌+◌, ◌-◌, length}
use Rattle.id_rows.specs.IdRows.{place_id}
use Rattle.id_rows.proofs.near.leap.Given as goal

abbrev pub invariant-leaps : goal.invariant-leaps
invariant-leaps g l = record {
  ahead : l.near + 2 ≤ l.known;
  within : l.known < length l.rows;
  less : place_id g.T.HasId.id_of l.rows l.known < l.id;
}

abbrev pub decreases-leaps : goal.decreases-leaps
decreases-leaps g l = length l.rows - l.known
