use Rattle.std.proofs.Common.{◌≡◌, ◌<◌, ◌++◌, ℕ, IfSome, drop, map}
use Rattle.numeric_ranges.specs.Ranges.{LowsRise}
use Rattle.ft_index.specs.Lists.{rows_of}
use Rattle.ft_index.specs.Picturing.{shown, slots_named}
use Rattle.ft_index.proofs.scanning.picture_ranges.Given as goal

-- the fields that are left are the only ones without pictures
abbrev pub invariant-fields : goal.invariant-fields
invariant-fields l = record {
  named : map shown l.all ++ slots_named l.number (drop l.number l.ranges) ≡ map shown l.fn.all ++ slots_named 0 l.ranges;
  rise : (field : ℕ) → field < l.number → IfSome (rows_of l.ranges field) LowsRise;
}
