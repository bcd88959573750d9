-- The value of a property in a row (RediSearch, FT.AGGREGATE).
use Rattle.std.specs.Prelude.{ℕ, List, [], ◌∷◌, Bool, true, false, ◌&&◌, Option, None, Some, unwrap_or, if◌then◌else◌}
use Rattle.std.specs.List.{list_any}
use Rattle.std.specs.Option.{option_map}
use Rattle.std.specs.Str.{bytes_eq}
use Rattle.ft_base.specs.Hash.{Hash, get_field}
use Rattle.ft_base.specs.Kinds.{is_numeric}
use Rattle.field_text.specs.Numbers.{number_of}
use Rattle.ft_base.specs.declared.definition.Field.{Field}
use Rattle.ft_base.specs.declared.definition.IndexDef.{IndexDef}
use Rattle.ft_base.specs.Docs.{Doc}
use Rattle.ft_base.specs.declared.row.Cell.{Cell}
use Rattle.ft_base.specs.declared.row.Row.{Row}
use Rattle.ft_base.specs.declared.row.Value.{Value}
use Rattle.ft_base.specs.declared.row.Value.TheVariants.{Null, Text}
use Rattle.expr_eval.specs.Values.{num_or_null}

-- the cell of a name
abbrev pub cell_of : List Cell → List ℕ → Option Value
cell_of [] name = None
cell_of (cell ∷ cells) name = if bytes_eq cell.name name then Some cell.value else cell_of cells name

-- the field that has this alias
abbrev pub alias_of : List Field → List ℕ → Option Field
alias_of [] name = None
alias_of (field ∷ fields) name = if bytes_eq field.alias name then Some field else alias_of fields name

-- whether a NUMERIC field reads this field of hashes
abbrev pub has_number : List Field → List ℕ → Bool
has_number fields name = list_any (λ field. is_numeric field.kind && bytes_eq field.name name) fields

-- What a stored text is seen as. That of a NUMERIC field is the number that the field reads of it, and Null where it reads none.
abbrev pub seen_as : Bool → List ℕ → Value
seen_as true text = num_or_null (number_of text)
seen_as false text = Text text

-- what a field of the index reads in a hash
abbrev pub by_field : Option Field → Hash → Option Value
by_field None hash = None
by_field (Some field) hash = option_map (seen_as (is_numeric field.kind)) (get_field hash field.name)

-- the hash's field that an alias names
abbrev pub by_alias : List ℕ → Hash → List Field → Option Value
by_alias name hash fields = by_field (alias_of fields name) hash

-- the hash's field of this very name
abbrev pub by_name : List ℕ → Hash → List Field → Option Value
by_name name hash fields = option_map (seen_as (has_number fields name)) (get_field hash name)

-- the field that the alias names, else the field of that name, else Null
abbrev pub in_hash : List ℕ → Hash → List Field → Value
in_hash name hash fields = unwrap_or (by_alias name hash fields) (unwrap_or (by_name name hash fields) Null)

-- a row that has lost its document has no fields
abbrev pub in_document : List ℕ → Option Doc → List Field → Value
in_document name None fields = Null
in_document name (Some doc) fields = in_hash name doc.hash fields

-- The row's cell, else the field that the alias names, else the field of that name, else Null.
abbrev pub property_value : List ℕ → Row → IndexDef → Value
property_value name row def = unwrap_or (cell_of row.cells name) (in_document name row.doc def.fields)
