use Rattle.std.proofs.Common.{◌-◌, ◌≤◌, length}
use Rattle.numeric_ranges.specs.Rows.{reach, rows_of}
use Rattle.numeric_ranges.proofs.search.reach.Given as goal

abbrev pub invariant-halving : goal.invariant-halving
invariant-halving l = record {
  low : l.low ≤ reach l.fn.value (rows_of l.rows);
  high : reach l.fn.value (rows_of l.rows) ≤ l.high;
  within : l.high ≤ length l.rows;
}

abbrev pub decreases-halving : goal.decreases-halving
decreases-halving l = l.high - l.low
