use Rattle.std.proofs.Common.{◌≡◌, ◌++◌, drop, map}
use Rattle.ft_index.specs.Picturing.{rows_named, shown}
use Rattle.ft_index.proofs.scanning.picture_rows.Given as goal

-- the ranges that are left are the only ones of the field without a picture
abbrev pub invariant-rows : goal.invariant-rows
invariant-rows l = map shown l.all ++ rows_named l.field (drop l.at l.rows) ≡ map shown l.fn.all ++ rows_named l.field l.rows
