use Rattle.std.proofs.Common.{ℕ, ◌≡◌, ◌<◌, ◌≤◌, true, length}
use Rattle.id_rows.specs.IdRows.{row_at_place, is_empty_row}
use Rattle.id_rows.proofs.rows.full_end.Given as goal

abbrev pub invariant-dropping : goal.invariant-dropping
invariant-dropping g l = record {
  within : l.end ≤ length l.rows;
  empty : (k : ℕ) → l.end ≤ k → k < length l.rows → is_empty_row (row_at_place l.rows k) ≡ true;
}

abbrev pub decreases-dropping : goal.decreases-dropping
decreases-dropping g l = l.end
