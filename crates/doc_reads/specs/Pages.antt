-- What an unsorted search keeps of the documents that it goes through, and what a search reads and shows: by its shape, and by its options.
use Rattle.std.specs.Prelude.{◌≡◌, ℕ, pos, ◌-◌, nat_le, nat_lt, ◌==◌, min, not, Bool, false, ◌&&◌, List, ◌∷◌, find, length, take, drop, Option, None, Some, is_some, if◌then◌else◌}
use Rattle.std.specs.List.{flat_map}
use Rattle.std.specs.Str.{bytes_eq}
use Rattle.cmd_parse.specs.Options.{Sort}
use Rattle.cmd_parse.specs.Searching.{Searching}
use Rattle.ft_base.specs.declared.definition.Field.{Field}
use Rattle.ft_base.specs.declared.definition.IndexDef.{IndexDef}
use Rattle.ft_base.specs.Docs.{Doc}
use Rattle.ft_base.specs.declared.reply.Reply.TheVariants.{Number}
use Rattle.ft_meaning.specs.Sortable.{keeps_number}
use Rattle.doc_reads.specs.Shapes.{order_by, row_by}
use Rattle.doc_reads.specs.declared.page.Page.{Page}
use Rattle.doc_reads.specs.declared.shape.Shape.{Shape}
use Rattle.doc_reads.specs.declared.shape.SortKey.{SortKey}

-- The number of documents, and those of the window as a shape shows them. Before these a 0 keeps the place of the number.
pub record Shows (shape : Shape) (docs : List Doc) (page : Page) : Type 0 where
  pub total : page.total ≡ length docs
  pub rows : page.rows.items ≡ Number (pos 0) ∷ flat_map (row_by shape) (take shape.num (drop shape.offset docs))

-- whether the document at a place, counted from 0, is in the window
abbrev pub in_window : Shape → ℕ → Bool
in_window shape place = nat_le shape.offset place && nat_lt (place - shape.offset) shape.num

-- how many are read where so many are shown: none where the keys alone are shown
abbrev pub reads_shown : Shape → ℕ → ℕ
reads_shown shape count = if shape.no_content then 0 else count

-- how many of so many documents are read where no order has to be read: those of the window that are shown
abbrev pub reads_of : Shape → ℕ → ℕ
reads_of shape count = reads_shown shape (min shape.num (count - shape.offset))

-- documents in the order of a key, and without one in order of their ids
abbrev pub ordered_by : Option SortKey → List Doc → List Doc
ordered_by None docs = docs
ordered_by (Some key) docs = order_by key docs

-- how many of so many documents are read in the order of a key: those of the window where the key has a column, else each
abbrev pub reads_sorted : Shape → SortKey → ℕ → ℕ
reads_sorted shape key count = if is_some key.column then reads_of shape count else count

-- and in the order that a shape asks for: none where no row is shown
abbrev pub reads_by : Shape → Option SortKey → ℕ → ℕ
reads_by shape None count = reads_of shape count
reads_by shape (Some key) count = if shape.num == 0 then 0 else reads_sorted shape key count

-- ---- by the options of a search

-- the field that a search is sorted by
abbrev pub sort_field : Option Sort → IndexDef → Option Field
sort_field None def = None
sort_field (Some sort) def = find (λ (field : Field). bytes_eq sort.field field.alias) def.fields

-- whether documents are read to be sorted: by a field whose numbers the index does not keep
abbrev pub reads_to_sort : Option Field → Bool
reads_to_sort None = false
reads_to_sort (Some field) = not (keeps_number field)

-- How many documents are read where so many count. Where they are read to be sorted, each is read once, unless none is shown;
-- else only those that are shown with their fields.
abbrev pub reads_for : Searching → IndexDef → ℕ → ℕ
reads_for what def count =
    if reads_to_sort (sort_field what.sort def) then (if what.num == 0 then 0 else count)
    else (if what.no_content then 0 else min what.num (count - what.offset))
