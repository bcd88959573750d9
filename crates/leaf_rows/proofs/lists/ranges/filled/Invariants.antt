use Rattle.std.proofs.Common.{◌≡◌}
use Rattle.ft_index.specs.UpTo.{RowsUpTo}
use Rattle.leaf_rows.proofs.lists.ranges.filled.Given as goal

-- the ids so far
abbrev pub invariant-values : goal.invariant-values
invariant-values l = record {
  id : l.id ≡ l.word-index;
  upto : RowsUpTo l.id l.ranges;
}
