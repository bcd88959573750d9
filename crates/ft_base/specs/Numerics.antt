-- The hash fields that the NUMERIC fields of an index read.
use Rattle.std.specs.Prelude.{ℕ, List, filter, map}
use Rattle.ft_base.specs.Kinds.{is_numeric}
use Rattle.ft_base.specs.declared.definition.Field.{Field}

-- in the order of the fields
abbrev pub numeric_names : List Field → List (List ℕ)
numeric_names fields = map (λ (field : Field). field.name) (filter (λ (field : Field). is_numeric field.kind) fields)
