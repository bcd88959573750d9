-- The numbers of a document that an index keeps beside its lists, so that searches sort by them without the document's hash.
use Rattle.std.specs.Prelude.{ℕ, ℤ, List, map, filter, Bool, ◌&&◌, Option, None, slice_index_or}
use Rattle.ft_base.specs.Kinds.{is_numeric}
use Rattle.ft_base.specs.declared.definition.Field.{Field}
use Rattle.ft_base.specs.declared.definition.IndexDef.{IndexDef}
use Rattle.ft_base.specs.Docs.{Doc}
use Rattle.ft_meaning.specs.Holds.{field_number}

-- whether a field's numbers are kept: it is NUMERIC and SORTABLE. NOINDEX makes no difference.
abbrev pub keeps_number : Field → Bool
keeps_number field = field.sortable && is_numeric field.kind

-- a document's sorting vector: its numbers of the fields that are kept, in the order of the fields
abbrev pub sorting_vector : IndexDef → Doc → List (Option ℤ)
sorting_vector def doc = map (field_number doc) (filter keeps_number def.fields)

-- the number at a place of a sorting vector; there is none behind its end
abbrev pub number_at : List (Option ℤ) → ℕ → Option ℤ
number_at vector place = slice_index_or vector place None
