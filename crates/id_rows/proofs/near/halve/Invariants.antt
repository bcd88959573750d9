use Rattle.std.proofs.Common.{ℕ, ◌<◌, ◌≤◌, ◌-◌, length}
use Rattle.id_rows.specs.IdRows.{place_id}
use Rattle.id_rows.proofs.near.halve.Given as goal

abbrev pub invariant-halving : goal.invariant-halving
invariant-halving g l = record {
  order : l.low ≤ l.high;
  within : l.high ≤ length l.rows;
  below : (k : ℕ) → k < l.low → place_id g.T.HasId.id_of l.rows k < l.id;
  above : (k : ℕ) → l.high ≤ k → k < length l.rows → l.id ≤ place_id g.T.HasId.id_of l.rows k;
}

abbrev pub decreases-halving : goal.decreases-halving
decreases-halving g l = l.high - l.low
