use Rattle.ft_index.specs.UpTo.{RowsUpTo}
use Rattle.leaf_rows.proofs.lists.ranges.put_collected.Given as goal

-- no id is above the last one
abbrev pub invariant-lows : goal.invariant-lows
invariant-lows l = RowsUpTo l.last l.ranges
