-- What a contract sees of the posting lists of tags: each field's dictionary.
use Rattle.std.specs.Prelude.{◌≡◌, ℕ, List, [], Option, find, nat_eq, nat_le, sum_by}
use Rattle.std.specs.List.Sorted.{IsStrictlySortedBy}
use Rattle.std.specs.Map.{keys_of, lookup}
use Rattle.std.specs.Option.{unwrap_or}
use Rattle.std.specs.Ordering.{nat_cmp}
use Rattle.inverted_list.specs.Listing.{Listing}
use Rattle.posting_block.specs.declared.hits.TagHit.{TagHit}
use Rattle.term_dict.specs.Terms.{Lists, Sets, WordsRise, IdsRise, list_of, entries_of, entries_in_all}

-- the numbers of fields, each with its tags and their lists
abbrev pub FieldTags : Type 0
FieldTags = List (ℕ × Lists TagHit)

-- the tags of a field and their lists: none where the field is not there
abbrev pub tags_of : FieldTags → ℕ → Lists TagHit
tags_of lists field = unwrap_or (lookup (nat_eq field) lists) []

-- the list of a field's tag, where it has one
abbrev pub list_in : FieldTags → ℕ → List ℕ → Option (Listing TagHit)
list_in lists field tag = list_of (tags_of lists field) tag

-- the entries of a field's tag: none where it has no list
abbrev pub entries_in : FieldTags → ℕ → List ℕ → List (ℕ × TagHit)
entries_in lists field tag = entries_of (tags_of lists field) tag

-- how many entries the lists of all fields have together
abbrev pub entries_in_fields : FieldTags → ℕ
entries_in_fields lists = sum_by (λ row. entries_in_all row.1) lists

-- The fields rise, so none is there twice.
abbrev pub FieldsRise : FieldTags → Type 0
FieldsRise lists = IsStrictlySortedBy nat_cmp (keys_of lists)

-- The tags of a field rise, and so do the ids of each tag.
pub record TagsRise (tags : Lists TagHit) : Type 0 where
  pub words : WordsRise tags
  pub ids : IdsRise tags

-- The tags of each field rise, and the entries of all lists are counted.
pub record FieldsKept (lists : FieldTags) (count : ℕ) : Type 0 where
  pub tags : (field : ℕ) → TagsRise (tags_of lists field)
  pub counted : count ≡ entries_in_fields lists

-- the least field of at least `from` that is there, where fields rise
abbrev pub first_field : ℕ → FieldTags → Option ℕ
first_field from lists = find (λ field. nat_le from field) (keys_of lists)

-- A field's tag has this list now, or none. Each other tag has what it had, and so has each other field: one without tags stays so.
pub record SetsTag (field : ℕ) (tag : List ℕ) (list : Option (Listing TagHit)) (old new : FieldTags) : Type 0 where
  pub here : Sets tag list (tags_of old field) (tags_of new field)
  pub others : (other : ℕ) → ¬ (other ≡ field) → lookup (nat_eq other) new ≡ lookup (nat_eq other) old
