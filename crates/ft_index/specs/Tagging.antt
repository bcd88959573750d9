-- How the tags of a document go into the lists.
use Rattle.std.specs.Prelude.{◌≡◌, ◌&&◌, ℕ, List, [], ◌∷◌, ◌++◌, false, nat_eq, slice_get}
use Rattle.std.specs.List.{list_any}
use Rattle.std.specs.Str.{bytes_eq}
use Rattle.ft_base.specs.declared.definition.Field.{Field}
use Rattle.ft_base.specs.Docs.{Doc}
use Rattle.term_dict.specs.Tags.{FieldTags, entries_in}
use Rattle.ft_index.specs.Adding.{tag_entry}
use Rattle.ft_index.specs.Entries.{searched_tags}

-- no tag is there twice
abbrev pub AreApart : List (List ℕ) → Type 0
AreApart [] = Unit {0}
AreApart (tag ∷ tags) = (list_any (bytes_eq tag) tags ≡ false) × AreApart tags

-- a field's tag got an entry, and no other one did
abbrev pub TagGains : ℕ → List ℕ → ℕ → FieldTags → FieldTags → Type 0
TagGains field tag id old new = (other : ℕ) (name : List ℕ)
    → entries_in new other name ≡ entries_in old other name ++ tag_entry id (nat_eq other field && bytes_eq name tag)

-- each of a field's tags did, and no other one
abbrev pub FieldTagsGain : ℕ → List (List ℕ) → ℕ → FieldTags → FieldTags → Type 0
FieldTagsGain field tags id old new = (other : ℕ) (name : List ℕ)
    → entries_in new other name ≡ entries_in old other name ++ tag_entry id (nat_eq other field && list_any (bytes_eq name) tags)

-- Each tag that a document has in one of these fields got its entry, and no other one did.
abbrev pub TagsGain : List Field → Doc → FieldTags → FieldTags → Type 0
TagsGain fields doc old new = (field : ℕ) (tag : List ℕ)
    → entries_in new field tag ≡ entries_in old field tag ++ tag_entry doc.id (list_any (bytes_eq tag) (searched_tags (slice_get fields field) doc))
