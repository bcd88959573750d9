use Rattle.std.proofs.Common.{◌≡◌, take}
use Rattle.numeric_ranges.specs.Rows.{AreFilled}
use Rattle.numeric_ranges.proofs.halving.filled.Given as goal

-- the rows have the entries so far
abbrev pub invariant-entries : goal.invariant-entries
invariant-entries l = record {
  filled : AreFilled l.fn.left l.fn.right (take l.id-index l.entries) l.below l.above;
  next : l.i ≡ l.id-index;
}
