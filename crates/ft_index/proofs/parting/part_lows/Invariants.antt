use Rattle.std.proofs.Common.{◌≡◌, ◌++◌, drop}
use Rattle.std.specs.Option.{option_copied}
use Rattle.ft_index.specs.Parting.{ahead, behind}
use Rattle.ft_index.specs.Picturing.{NamedLists, rows_named}
use Rattle.ft_index.proofs.parting.part_lows.Given as goal

-- the ranges that are left are the only ones of the field that the part did not take
abbrev pub invariant-rows : goal.invariant-rows
invariant-rows g l = (rest : NamedLists) → ahead l.part (behind (option_copied l.hand) (rows_named l.field (drop l.at l.rows)) ++ rest)
    ≡ ahead l.fn.part (behind (option_copied l.hand) (rows_named l.field l.rows) ++ rest)
