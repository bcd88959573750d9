use Rattle.std.proofs.Common.{◌≡◌, ◌++◌, drop, map}
use Rattle.std.specs.Map.{keys_of}
use Rattle.ft_index.specs.Picturing.{fields_named, shown}
use Rattle.ft_index.proofs.scanning.picture_tags.Given as goal

-- the fields that are left are the only ones without pictures
abbrev pub invariant-loop-field : goal.invariant-loop-field
invariant-loop-field l = map shown l.all ++ fields_named l.tags (drop l.field-index l.field-items) ≡ map shown l.fn.all ++ fields_named l.tags (keys_of l.tags)
