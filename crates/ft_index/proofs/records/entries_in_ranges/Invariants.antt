use Rattle.std.proofs.Common.{◌≡◌, ◌+◌, drop}
use Rattle.ft_index.specs.Records.{entries_in_ranges}
use Rattle.ft_index.proofs.records.entries_in_ranges.Given as goal

-- what was counted and what is left are all entries
abbrev pub invariant-loop-slot : goal.invariant-loop-slot
invariant-loop-slot l = l.total + entries_in_ranges (drop l.slot-index l.ranges) ≡ entries_in_ranges l.ranges
