use Rattle.std.proofs.Common.{◌≡◌, ◌<◌, ◌++◌, ℕ, IfSome, drop}
use Rattle.std.specs.Option.{option_copied}
use Rattle.numeric_ranges.specs.Ranges.{LowsRise}
use Rattle.ft_index.specs.Lists.{rows_of}
use Rattle.ft_index.specs.Parting.{ahead, behind}
use Rattle.ft_index.specs.Picturing.{NamedLists, slots_named}
use Rattle.ft_index.proofs.parting.part_ranges.Given as goal

-- the fields that are left are the only ones of which the part took no range
abbrev pub invariant-fields : goal.invariant-fields
invariant-fields g l = record {
  takes : (rest : NamedLists) → ahead l.part (behind (option_copied l.hand) (slots_named l.number (drop l.number l.ranges)) ++ rest)
      ≡ ahead l.fn.part (behind (option_copied l.hand) (slots_named 0 l.ranges) ++ rest);
  rise : (field : ℕ) → field < l.number → IfSome (rows_of l.ranges field) LowsRise;
}
