use Rattle.ft_index.specs.UpTo.{RowsUpTo}
use Rattle.leaf_rows.proofs.lists.ranges.add_times.Given as goal

-- the ids so far
abbrev pub invariant-times : goal.invariant-times
invariant-times l = RowsUpTo l.id l.ranges
