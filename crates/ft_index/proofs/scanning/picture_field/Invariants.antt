use Rattle.std.proofs.Common.{◌≡◌, ◌++◌, length, map}
use Rattle.term_dict.specs.Tags.{tags_of}
use Rattle.ft_index.specs.Picturing.{field_named, shown}
use Rattle.ft_index.proofs.scanning.picture_field.Given as goal

-- the tags that are left are the only ones of the field without a picture
abbrev pub invariant-rows : goal.invariant-rows
invariant-rows l = map shown l.all ++ field_named l.field l.walk ≡ map shown l.fn.all ++ field_named l.field (tags_of l.tags l.field)

abbrev pub decreases-rows : goal.decreases-rows
decreases-rows l = length l.walk
