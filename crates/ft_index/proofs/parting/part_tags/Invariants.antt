use Rattle.std.proofs.Common.{◌≡◌, ◌++◌, drop}
use Rattle.std.specs.Map.{keys_of}
use Rattle.std.specs.Option.{option_copied}
use Rattle.ft_index.specs.Parting.{ahead, behind}
use Rattle.ft_index.specs.Picturing.{NamedLists, fields_named}
use Rattle.ft_index.proofs.parting.part_tags.Given as goal

-- the fields that are left are the only ones of which the part took no tag
abbrev pub invariant-loop-field : goal.invariant-loop-field
invariant-loop-field g l = (rest : NamedLists) → ahead l.part (behind (option_copied l.hand) (fields_named l.tags (drop l.field-index l.field-items)) ++ rest)
    ≡ ahead l.fn.part (behind (option_copied l.hand) (fields_named l.tags (keys_of l.tags)) ++ rest)
