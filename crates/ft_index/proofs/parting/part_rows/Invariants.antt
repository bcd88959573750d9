use Rattle.std.proofs.Common.{◌≡◌, ◌++◌, length}
use Rattle.ft_index.specs.Parting.{ahead}
use Rattle.ft_index.specs.Picturing.{NamedLists, field_named}
use Rattle.ft_index.proofs.parting.part_rows.Given as goal

-- the tags that are left are the only ones that the part did not take
abbrev pub invariant-rows : goal.invariant-rows
invariant-rows g l = (rest : NamedLists) → ahead l.part (field_named l.field l.walk ++ rest) ≡ ahead l.fn.part (field_named l.field l.fn.walk ++ rest)

abbrev pub decreases-rows : goal.decreases-rows
decreases-rows g l = length l.walk
