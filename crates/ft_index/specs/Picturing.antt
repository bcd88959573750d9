-- The lists of an index under their names, one after another in the order of names.
use Rattle.std.specs.Prelude.{ℕ, ◌+◌, List, [], ◌∷◌, ◌++◌, map, Option, Some, None, IfSome}
use Rattle.std.specs.Map.{keys_of}
use Rattle.id_iters.specs.declared.list_name.ListName.{ListName}
use Rattle.id_iters.specs.declared.list_name.ListName.TheVariants as names
use Rattle.numeric_ranges.specs.Ranges.{LowsRise, Rows}
use Rattle.posting_block.specs.declared.hits.TagHit.{TagHit}
use Rattle.posting_block.specs.declared.hits.TextHit.{TextHit}
use Rattle.term_dict.specs.Tags.{FieldTags, FieldsRise, tags_of}
use Rattle.term_dict.specs.Terms.{Lists, WordsRise}
use Rattle.ft_index.specs.declared.snapshots.NamedPicture.{NamedPicture}
use Rattle.ft_index.specs.Lists.{AllLists, rows_of}
use Rattle.ft_index.specs.Snapshots.{AnyListing, WordList, TagList, RangeList, pictured}

-- names, each with its list
abbrev pub NamedLists : Type 0
NamedLists = List (ListName × AnyListing)

-- what a picture shows, with its name
abbrev pub shown : NamedPicture → ListName × AnyListing
shown named = (named.name, pictured named.picture)

-- the lists of words
abbrev pub words_named : Lists TextHit → NamedLists
words_named words = map (λ row. (names.Word row.0, WordList row.1)) words

-- of the tags of a field
abbrev pub field_named : ℕ → Lists TagHit → NamedLists
field_named field tags = map (λ row. (names.Tag field row.0, TagList row.1)) tags

-- of the tags of fields
abbrev pub fields_named : FieldTags → List ℕ → NamedLists
fields_named tags [] = []
fields_named tags (field ∷ fields) = field_named field (tags_of tags field) ++ fields_named tags fields

-- of the ranges of a field
abbrev pub rows_named : ℕ → Rows → NamedLists
rows_named field rows = map (λ row. (names.Range field row.0, RangeList row.1)) rows

abbrev pub slot_named : ℕ → Option Rows → NamedLists
slot_named field None = []
slot_named field (Some rows) = rows_named field rows

-- of the ranges of fields, from a field on
abbrev pub slots_named : ℕ → List (Option Rows) → NamedLists
slots_named field [] = []
slots_named field (slot ∷ slots) = slot_named field slot ++ slots_named (field + 1) slots

-- all lists of an index
abbrev pub all_named : AllLists → NamedLists
all_named lists = words_named lists.words ++ (fields_named lists.tags (keys_of lists.tags) ++ slots_named 0 lists.ranges)

-- The words rise, the fields and the tags of each, and the lows of each field's ranges.
pub record AreOrdered (lists : AllLists) : Type 0 where
  pub words : WordsRise lists.words
  pub fields : FieldsRise lists.tags
  pub tags : (field : ℕ) → WordsRise (tags_of lists.tags field)
  pub ranges : (field : ℕ) → IfSome (rows_of lists.ranges field) LowsRise
