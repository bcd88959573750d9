-- Which documents a search counts (RediSearch, FT.SEARCH: INKEYS and FILTER), and in which order they stand (SORTBY).
use Rattle.std.specs.Prelude.{ℕ, ℤ, List, [], ◌∷◌, ◌++◌, Bool, true, false, ◌&&◌, not, min, filter, fold, position, Option, Some, None, if◌then◌else◌}
use Rattle.std.specs.List.{find, flat_map, list_all, list_any}
use Rattle.std.specs.Str.{bytes_eq}
use Rattle.cmd_parse.specs.Filters.{Filter}
use Rattle.cmd_parse.specs.Options.{Sort}
use Rattle.cmd_parse.specs.Searching.{Searching}
use Rattle.field_text.specs.Numbers.{number_of}
use Rattle.ft_base.specs.Hash.{get_field}
use Rattle.ft_base.specs.Kinds.{is_numeric}
use Rattle.ft_base.specs.declared.definition.Field.{Field}
use Rattle.ft_base.specs.declared.definition.IndexDef.{IndexDef}
use Rattle.ft_base.specs.Docs.{Doc}
use Rattle.ft_base.specs.declared.query.Query.{Query}
use Rattle.ft_base.specs.declared.query.Query.TheVariants as tree
use Rattle.ft_base.specs.declared.row.Value.{Value}
use Rattle.ft_base.specs.declared.row.Value.TheVariants as value
use Rattle.ft_meaning.specs.Holds.{found_of, holds}
use Rattle.row_sort.specs.Order.{value_order}
use Rattle.row_sort.specs.Sorting.{sorted}

-- whether a key is among those that are named, where some are
abbrev pub is_among : Option (List (List ℕ)) → List ℕ → Bool
is_among None key = true
is_among (Some keys) key = list_any (bytes_eq key) keys

-- whether the number of a document's field lies in an interval; in one without a number none does
abbrev pub lies_in : IndexDef → Doc → Option ℕ → Option (ℤ × ℤ) → Bool
lies_in def doc (Some field) (Some interval) = holds (tree.Range field interval.0 interval.1) def doc
lies_in def doc _ _ = false

abbrev pub passes : IndexDef → Doc → Filter → Bool
passes def doc condition =
    lies_in def doc (position (λ (field : Field). bytes_eq condition.field field.alias) def.fields) condition.interval

-- the documents that count: those that the query finds, of the keys that are named, and that pass each FILTER
abbrev pub counted : Searching → Query → IndexDef → List Doc → List Doc
counted what query def docs =
    filter (λ (doc : Doc). is_among what.keys doc.key && list_all (passes def doc) what.filters) (found_of query def docs)

-- a number where it is one, and Null where it is none
abbrev pub num_or_null : Option ℤ → Value
num_or_null None = value.Null
num_or_null (Some n) = value.Num n

-- a text as a field's kind sees it
abbrev pub seen_by : Field → Option (List ℕ) → Value
seen_by field None = value.Null
seen_by field (Some text) = if is_numeric field.kind then num_or_null (number_of text) else value.Text text

-- the order of documents by a field: numbers by number, others by their bytes, which are lowered unless the field is UNF
abbrev pub in_order_of : Field → Bool → List Doc → List Doc
in_order_of field descending docs =
    sorted (λ (left right : Doc). value_order (record { descending = descending; lower = not field.unf })
    (seen_by field (get_field left.hash field.name)) (seen_by field (get_field right.hash field.name))) docs

abbrev pub in_order_by : Option Field → Bool → List Doc → List Doc
in_order_by None descending docs = docs
in_order_by (Some field) descending docs = in_order_of field descending docs

-- the documents in the order that SORTBY asks for; without it, in order of their ids
abbrev pub in_order : Option Sort → IndexDef → List Doc → List Doc
in_order None def docs = docs
in_order (Some sort) def docs = in_order_by (find (λ (field : Field). bytes_eq sort.field field.alias) def.fields) sort.descending docs

-- the words that name no field: of SORTBY one of any kind, of a FILTER a NUMERIC one
abbrev pub unknown_filter : List Field → Filter → List ℕ
unknown_filter fields condition =
    if list_any (λ (field : Field). is_numeric field.kind && bytes_eq condition.field field.alias) fields then [] else condition.at ∷ []

abbrev pub unknown_sort : List Field → Option Sort → List ℕ
unknown_sort fields None = []
unknown_sort fields (Some sort) = if list_any (λ (field : Field). bytes_eq sort.field field.alias) fields then [] else sort.at ∷ []

-- the least of some numbers, where there is one
abbrev pub least : List ℕ → Option ℕ
least [] = None
least (n ∷ numbers) = Some (fold min n numbers)

abbrev pub first_unknown : List Field → Searching → Option ℕ
first_unknown fields what = least (unknown_sort fields what.sort ++ flat_map (unknown_filter fields) what.filters)
