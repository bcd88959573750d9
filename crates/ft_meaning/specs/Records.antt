-- The live records of an index (RediSearch, FT.INFO: num_records), from the plain hashes alone. A member is counted once
-- for each distinct word of its TEXT fields together, once for each distinct tag of each TAG field, and once for each
-- NUMERIC field that it has. A NOINDEX field counts nothing.
use Rattle.std.specs.Prelude.{ℕ, ◌+◌, List, map, length, ◌&&◌, not, is_some, if◌then◌else◌, sum_by}
use Rattle.std.specs.List.{flat_map}
use Rattle.std.specs.Set.{distinct_count}
use Rattle.std.specs.Str.{bytes_eq}
use Rattle.ft_base.specs.declared.definition.Field.{Field}
use Rattle.ft_base.specs.declared.definition.IndexDef.{IndexDef}
use Rattle.ft_base.specs.Docs.{Doc}
use Rattle.ft_meaning.specs.Holds.{field_number, field_tags}
use Rattle.ft_meaning.specs.Meaning.{field_tokens}
use Rattle.token_text.specs.declared.token.Token.{Token}

-- the words of all fields whose words are found, each as often as it stands there
abbrev pub words_of : IndexDef → Doc → List (List ℕ)
words_of def doc = map (λ (token : Token). token.word) (flat_map (field_tokens def doc) def.fields)

-- how many distinct ones
abbrev pub word_count : IndexDef → Doc → ℕ
word_count def doc = distinct_count bytes_eq (words_of def doc)

-- how many tags a field has, where it is not NOINDEX; `field_tags` has each once
abbrev pub tag_count : Doc → Field → ℕ
tag_count doc field = if field.noindex then 0 else length (field_tags doc field)

-- one where a field has a number, and is not NOINDEX
abbrev pub number_count : Doc → Field → ℕ
number_count doc field = if not field.noindex && is_some (field_number doc field) then 1 else 0

-- how often a document is counted: for its words, for its tags field by field, for its numbers
abbrev pub records_of : IndexDef → Doc → ℕ
records_of def doc = word_count def doc + sum_by (tag_count doc) def.fields + sum_by (number_count doc) def.fields

-- the live records of an index that has these members
abbrev pub live_records : IndexDef → List Doc → ℕ
live_records def docs = sum_by (records_of def) docs
