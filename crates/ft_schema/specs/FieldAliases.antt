-- The aliases of fields.
use Rattle.std.specs.Prelude.{ℕ, List, map}
use Rattle.ft_base.specs.declared.definition.Field.{Field}

-- the aliases of fields, in order
abbrev pub field_aliases : List Field → List (List ℕ)
field_aliases fields = map (λ (field : Field). field.alias) fields
