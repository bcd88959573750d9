use Rattle.std.proofs.Common.{◌≡◌, List, ℕ, take}
use Rattle.std.specs.List.{list_any}
use Rattle.std.specs.Str.{bytes_eq}
use Rattle.ft_schema.specs.Fields.{has_alias}
use Rattle.ft_schema.proofs.extension.aliases_of.Given as goal

-- an alias is known where a field so far has it
abbrev pub invariant-loop-field : goal.invariant-loop-field
invariant-loop-field l = (alias : List ℕ) → list_any (bytes_eq alias) l.aliases ≡ has_alias (take l.field-index l.fields) alias
