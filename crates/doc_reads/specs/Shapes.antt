-- What a search shows, once its names are looked up in the index's definition.
use Rattle.std.specs.Prelude.{◌≡◌, ℕ, suc, ℤ, pos, List, [], ◌∷◌, length, map, take, drop, Bool, true, not, Option, None, Some, option_map, option_and_then, if◌then◌else◌}
use Rattle.std.specs.List.{find, flat_map, list_any}
use Rattle.std.specs.Str.{bytes_eq}
use Rattle.cmd_parse.specs.Options.{Sort}
use Rattle.cmd_parse.specs.Searching.{Searching}
use Rattle.ft_base.specs.Hash.{Hash, get_field, in_turn}
use Rattle.ft_base.specs.Kinds.{is_numeric}
use Rattle.ft_base.specs.declared.definition.Field.{Field}
use Rattle.ft_base.specs.declared.definition.IndexDef.{IndexDef}
use Rattle.ft_base.specs.Docs.{Doc}
use Rattle.ft_base.specs.declared.reply.Reply.{Reply}
use Rattle.ft_base.specs.declared.reply.Reply.TheVariants.{Array, Bulk, Number}
use Rattle.ft_base.specs.declared.row.Value.{Value}
use Rattle.ft_base.specs.declared.row.Value.TheVariants as value
use Rattle.ft_machine.specs.Counted.{num_or_null}
use Rattle.ft_machine.specs.Shown.{bare_name, field_named, with_value}
use Rattle.ft_meaning.specs.Sortable.{keeps_number}
use Rattle.field_text.specs.Numbers.{number_of}
use Rattle.row_sort.specs.Order.{value_order}
use Rattle.row_sort.specs.Sorting.{sorted}
use Rattle.row_sort.specs.declared.order.Direction.{Direction}
use Rattle.doc_reads.specs.Ids.{doc_at}
use Rattle.doc_reads.specs.declared.shape.Shape.{Shape}
use Rattle.doc_reads.specs.declared.shape.ShownField.{ShownField}
use Rattle.doc_reads.specs.declared.shape.SortKey.{SortKey}

-- a name that is shown, and the hash's field that it stands for
abbrev pub pair_of : ShownField → List ℕ × List ℕ
pair_of shown = (shown.name.now, shown.field.now)

-- a name of a search, and the hash's field that it stands for
abbrev pub resolved : List Field → List ℕ → List ℕ × List ℕ
resolved fields name = (name, field_named fields (bare_name name))

-- the field that sorts, whether it is NUMERIC, and the direction
abbrev pub key_seen : SortKey → List ℕ × (Bool × Direction)
key_seen key = (key.field.now, (key.numeric, key.by))

-- a field of the index as the key that sorts
abbrev pub key_of_field : Bool → Field → List ℕ × (Bool × Direction)
key_of_field descending field = (field.name, (is_numeric field.kind, record { descending = descending; lower = not field.unf }))

-- the key of a search, where it names one of these fields
abbrev pub key_for : Option Sort → List Field → Option (List ℕ × (Bool × Direction))
key_for None fields = None
key_for (Some sort) fields = option_map (key_of_field sort.descending) (find (λ (field : Field). bytes_eq sort.field field.alias) fields)

-- The column of sorting vectors with the numbers of the field of an alias, if these are kept. The first field of the alias is meant.
abbrev pub column_named : List ℕ → List Field → Option ℕ
column_named alias [] = None
column_named alias (field ∷ fields) =
    if bytes_eq alias field.alias then (if keeps_number field then Some 0 else None)
    else option_map (λ column. if keeps_number field then suc column else column) (column_named alias fields)

-- the column of the numbers that a search is sorted by
abbrev pub column_for : Option Sort → List Field → Option ℕ
column_for None fields = None
column_for (Some sort) fields = column_named sort.field fields

-- A shape is that of a search in an index.
pub record IsShapeOf (what : Searching) (def : IndexDef) (shape : Shape) : Type 0 where
  pub no_content : shape.no_content ≡ what.no_content
  pub fields : option_map (λ shown. map pair_of shown.items) shape.fields ≡ option_map (map (resolved def.fields)) what.fields
  pub sort : option_map key_seen shape.sort ≡ key_for what.sort def.fields
  pub column : option_and_then (λ key. key.column) shape.sort ≡ column_for what.sort def.fields
  pub offset : shape.offset ≡ what.offset
  pub num : shape.num ≡ what.num

-- a field of a document that is shown: its name and its value, where it is there
abbrev pub shown_in : Hash → ShownField → List Reply
shown_in hash shown = with_value shown.name.now (get_field hash shown.field.now)

-- the fields that are named and there, or all where none are named
abbrev pub fields_with : Option (List ShownField) → Hash → List Reply
fields_with None hash = in_turn hash
fields_with (Some fields) hash = flat_map (shown_in hash) fields

-- the fields of a document that a shape shows
abbrev pub fields_by : Shape → Hash → List Reply
fields_by shape hash = fields_with (option_map (λ shown. shown.items) shape.fields) hash

-- a document as a shape shows it
abbrev pub row_by : Shape → Doc → List Reply
row_by shape doc = Bulk doc.key ∷ (if shape.no_content then [] else Array (fields_by shape doc.hash) ∷ [])

-- the number of some documents, and those of the window as a shape shows them
abbrev pub page_by : Shape → List Doc → Reply
page_by shape docs = Array (Number (pos (length docs)) ∷ flat_map (row_by shape) (take shape.num (drop shape.offset docs)))

-- what a key sees of a text
abbrev pub value_seen : Bool → Option (List ℕ) → Value
value_seen numeric None = value.Null
value_seen numeric (Some text) = if numeric then num_or_null (number_of text) else value.Text text

-- what it sees of a document
abbrev pub value_by : SortKey → Doc → Value
value_by key doc = value_seen key.numeric (get_field doc.hash key.field.now)

-- Where a key has a column, the numbers there are what it sees of the documents of a set.
pub record AreSeen (has : ℕ → Bool) (numbers : ℕ → ℕ → Option ℤ) (key : SortKey) (docs : List Doc) : Type 0 where
  pub each : (id column : ℕ) (doc : Doc) → key.column ≡ Some column → has id ≡ true → doc_at id docs ≡ Some doc
      → num_or_null (numbers id column) ≡ value_by key doc

-- documents in the order of a key
abbrev pub order_by : SortKey → List Doc → List Doc
order_by key docs = sorted (λ (left right : Doc). value_order key.by (value_by key left) (value_by key right)) docs

-- a field that a search names to sort by is one of the index
pub record SortsBy (fields : List Field) (what : Searching) : Type 0 where
  pub known : (sort : Sort) → what.sort ≡ Some sort → list_any (λ (field : Field). bytes_eq sort.field field.alias) fields ≡ true
