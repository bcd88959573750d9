-- What a query asks of one document (RediSearch, query dialect 2), from its definition and its plain hash alone.
use Rattle.std.specs.Prelude.{ℕ, ℤ, List, [], map, Bool, true, false, ◌&&◌, not, filter, eqb, int_le, Option, Some, None, slice_get, if◌then◌else◌}
use Rattle.std.specs.List.{filter_map, list_all, list_any, starts_with}
use Rattle.std.specs.Str.{bytes_eq}
use Rattle.ft_base.specs.Hash.{get_field}
use Rattle.ft_base.specs.declared.definition.Field.{Field}
use Rattle.ft_base.specs.declared.definition.FieldKind.{FieldKind}
use Rattle.ft_base.specs.declared.definition.FieldKind.TheVariants as kinds
use Rattle.ft_base.specs.declared.definition.IndexDef.{IndexDef}
use Rattle.ft_base.specs.Docs.{Doc}
use Rattle.ft_base.specs.declared.query.Fields.{Fields}
use Rattle.ft_base.specs.declared.query.Fields.TheVariants.{All, Named}
use Rattle.ft_base.specs.declared.query.Query.{Query}
use Rattle.ft_base.specs.declared.query.Query.TheOpen as layer
use Rattle.ft_base.specs.declared.query.Query.TheFolds.{fold-Query}
use Rattle.ft_base.specs.declared.query.TagPart.{TagPart}
use Rattle.field_text.specs.Numbers.{number_of}
use Rattle.field_text.specs.Tags.{tags_of}
use Rattle.ft_meaning.specs.Meaning.{field_tokens, found_by, has_word, has_words}
use Rattle.phrase_match.specs.Phrase.{within}
use Rattle.token_text.specs.declared.token.Token.{Token}

-- What a document has: whether a word is in the fields, a word that begins so, words that stand so, one of the tags, a number.
pub record Has : Type 0 where
  pub word : Fields → List ℕ → Bool
  pub prefix : Fields → List ℕ → Bool
  pub phrase : Fields → List (List ℕ) → Option ℕ → Bool → Bool
  pub tags : ℕ → List TagPart → Bool
  pub range : ℕ → ℤ → ℤ → Bool

-- One part of a query, by what holds of the parts in it.
abbrev pub holds_step : Has → layer.Query-F Bool → Bool
holds_step has layer.Empty = false
holds_step has layer.All = true
holds_step has (layer.Word fields text) = has.word fields text
holds_step has (layer.Prefix fields text) = has.prefix fields text
holds_step has (layer.Phrase fields words slop in_order) = has.phrase fields words slop in_order
holds_step has (layer.Tags field tags) = has.tags field tags
holds_step has (layer.Range field low high) = has.range field low high
holds_step has (layer.And parts) = list_all (λ holds. holds) parts
holds_step has (layer.Or parts) = list_any (λ holds. holds) parts
holds_step has (layer.Not part) = not part
holds_step has (layer.Optional part) = true

-- whether a query holds of whatever has this
abbrev pub holds_by : Has → Query → Bool
holds_by has = fold-Query Bool (holds_step has)

-- the fields of these numbers whose words are found; a number that the index lacks names none
abbrev pub named : IndexDef → Fields → List Field
named def All = def.fields
named def (Named numbers) = filter_map (slice_get def.fields) numbers

abbrev pub searched : IndexDef → Fields → List Field
searched def fields = filter has_words (named def fields)

-- whether a word begins with a text
abbrev pub begins : List ℕ → List ℕ → Bool
begins text word = starts_with eqb word text

abbrev pub has_prefix : List ℕ → List Token → Bool
has_prefix text found = list_any (λ (token : Token). begins text token.word) found

-- the places of a word among tokens
abbrev pub places_of : List Token → List ℕ → List ℕ
places_of found word = map (λ (token : Token). token.place) (filter (λ (token : Token). bytes_eq word token.word) found)

-- whether words stand so in one text
abbrev pub has_phrase : List (List ℕ) → Option ℕ → Bool → List Token → Bool
has_phrase words slop in_order found = within (map (places_of found) words) slop in_order

-- whether a tag is one that is looked for
abbrev pub is_sought : List TagPart → List ℕ → Bool
is_sought parts tag = list_any (λ (part : TagPart). if part.prefix then begins part.text tag else bytes_eq part.text tag) parts

abbrev pub value_tags : FieldKind → Option (List ℕ) → List (List ℕ)
value_tags (kinds.Tag separator case) (Some value) = tags_of value separator case
value_tags kind value = []

-- the tags of a document's field, which a NOINDEX field has too
abbrev pub field_tags : Doc → Field → List (List ℕ)
field_tags doc field = value_tags field.kind (get_field doc.hash field.name)

abbrev pub has_tag : Doc → List TagPart → Option Field → Bool
has_tag doc parts None = false
has_tag doc parts (Some field) = not field.noindex && list_any (is_sought parts) (field_tags doc field)

abbrev pub value_number : FieldKind → Option (List ℕ) → Option ℤ
value_number kinds.Numeric (Some value) = number_of value
value_number kind value = None

-- the number of a document's field
abbrev pub field_number : Doc → Field → Option ℤ
field_number doc field = value_number field.kind (get_field doc.hash field.name)

abbrev pub is_between : ℤ → ℤ → Option ℤ → Bool
is_between low high None = false
is_between low high (Some n) = int_le low n && int_le n high

abbrev pub has_number : Doc → ℤ → ℤ → Option Field → Bool
has_number doc low high None = false
has_number doc low high (Some field) = not field.noindex && is_between low high (field_number doc field)

-- what a document has, in an index
abbrev pub has_of : IndexDef → Doc → Has
has_of def doc = record {
  word = λ fields text. list_any (λ (field : Field). has_word text (field_tokens def doc field)) (searched def fields);
  prefix = λ fields text. list_any (λ (field : Field). has_prefix text (field_tokens def doc field)) (searched def fields);
  phrase = λ fields words slop in_order. list_any (λ (field : Field). has_phrase words slop in_order (field_tokens def doc field)) (searched def fields);
  tags = λ field parts. has_tag doc parts (slice_get def.fields field);
  range = λ field low high. has_number doc low high (slice_get def.fields field);
}

-- whether a document meets a query
abbrev pub holds : Query → IndexDef → Doc → Bool
holds query def doc = holds_by (has_of def doc) query

-- the documents that a query finds: the members that meet it, in their order
abbrev pub found_of : Query → IndexDef → List Doc → List Doc
found_of query def docs = found_by (holds query) def docs
