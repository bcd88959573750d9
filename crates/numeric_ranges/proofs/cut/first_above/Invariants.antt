use Rattle.std.proofs.Common.{◌≡◌, ◌<◌, ℕ, ℤ, int_le, true, get_or}
use Rattle.numeric_ranges.proofs.cut.first_above.Given as goal

-- those before are the smallest
abbrev pub invariant-rising : goal.invariant-rising
invariant-rising l = (k : ℕ) (d : ℤ) → k < l.value-index → int_le (get_or l.rising k d) l.fn.smallest ≡ true
