use Rattle.std.proofs.Common.{◌-◌, ◌<◌, ◌≤◌, ℕ, length}
use Rattle.doc_table.specs.Pages.{number_at}
use Rattle.doc_table.proofs.places.place_between.Given as goal

abbrev pub invariant-halving : goal.invariant-halving
invariant-halving l = record {
  low : l.low ≤ length l.pages;
  high : l.high ≤ length l.pages;
  below : (k : ℕ) → k < l.low → number_at l.pages k < l.number;
  above : (k : ℕ) → l.high ≤ k → k < length l.pages → l.number ≤ number_at l.pages k;
}

abbrev pub decreases-halving : goal.decreases-halving
decreases-halving l = l.high - l.low
