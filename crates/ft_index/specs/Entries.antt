-- What the lists of an index have to say of each document, read from its hash alone.
use Rattle.std.specs.Prelude.{ℕ, ℤ, suc, ◌+◌, ◌*◌, ◌^◌, List, [], ◌∷◌, ◌++◌, map, filter, Bool, false, Option, Some, None, slice_get, if◌then◌else◌}
use Rattle.std.specs.List.{filter_map, list_any}
use Rattle.std.specs.Option.{option_map}
use Rattle.std.specs.Str.{bytes_eq}
use Rattle.ft_base.specs.Kinds.{is_numeric}
use Rattle.ft_base.specs.declared.definition.Field.{Field}
use Rattle.ft_base.specs.declared.definition.IndexDef.{IndexDef}
use Rattle.ft_base.specs.Docs.{Doc}
use Rattle.ft_meaning.specs.Holds.{field_number, field_tags}
use Rattle.ft_meaning.specs.Meaning.{field_tokens}
use Rattle.posting_block.specs.declared.hits.NumHit.{NumHit}
use Rattle.posting_block.specs.declared.hits.TagHit.{TagHit}
use Rattle.posting_block.specs.declared.hits.TextHit.{TextHit}
use Rattle.token_text.specs.declared.token.Token.{Token}

-- A token of the field with this number: its word, and a code of the field and the place in it.
abbrev pub occurrence : ℕ → Token → List ℕ × ℕ
occurrence number token = (token.word, number * 2 ^ 32 + token.place)

-- the tokens of the fields of a document, the first field having this number
abbrev pub occurrences_from : IndexDef → Doc → ℕ → List Field → List (List ℕ × ℕ)
occurrences_from def doc number [] = []
occurrences_from def doc number (field ∷ fields) = map (occurrence number) (field_tokens def doc field) ++ occurrences_from def doc (suc number) fields

-- each word of a document as often as it stands there, in order of codes
abbrev pub occurrences : IndexDef → Doc → List (List ℕ × ℕ)
occurrences def doc = occurrences_from def doc 0 def.fields

-- the codes of a word among occurrences
abbrev pub codes_among : List ℕ → List (List ℕ × ℕ) → List ℕ
codes_among word found = map (λ (one : List ℕ × ℕ). one.1) (filter (λ (one : List ℕ × ℕ). bytes_eq word one.0) found)

-- where a word stands in a document
abbrev pub codes : IndexDef → List ℕ → Doc → List ℕ
codes def word doc = codes_among word (occurrences def doc)

-- the entry of a document where it has the word, and none where it has not
abbrev pub entry : ℕ → List ℕ → List (ℕ × TextHit)
entry id [] = []
entry id (code ∷ codes) = (id, record { places = code ∷ codes }) ∷ []

-- The entries of a word: the documents that have it, in their order, each with the word's codes.
abbrev pub word_entries : IndexDef → List ℕ → List Doc → List (ℕ × TextHit)
word_entries def word [] = []
word_entries def word (doc ∷ docs) = entry doc.id (codes def word doc) ++ word_entries def word docs

-- the tags of a document by which the field of a number is searched; a NOINDEX field has none
abbrev pub searched_tags : Option Field → Doc → List (List ℕ)
searched_tags None doc = []
searched_tags (Some field) doc = if field.noindex then [] else field_tags doc field

-- whether a document has a tag in the field of a number
abbrev pub has_tag : IndexDef → ℕ → List ℕ → Doc → Bool
has_tag def number tag doc = list_any (bytes_eq tag) (searched_tags (slice_get def.fields number) doc)

-- the entries of a field's tag: the documents that have it, in their order
abbrev pub tag_entries : IndexDef → ℕ → List ℕ → List Doc → List (ℕ × TagHit)
tag_entries def number tag docs = map (λ (doc : Doc). (doc.id, record {})) (filter (has_tag def number tag) docs)

-- the number of a document by which the field of a number is searched
abbrev pub searched_number : Option Field → Doc → Option ℤ
searched_number None doc = None
searched_number (Some field) doc = if field.noindex then None else field_number doc field

-- the entry of a document where its field has a number
abbrev pub number_entry : IndexDef → ℕ → Doc → Option (ℕ × NumHit)
number_entry def number doc = option_map (λ n. (doc.id, record { value = n })) (searched_number (slice_get def.fields number) doc)

-- the entries of a field's numbers: the documents that have one, in their order
abbrev pub number_entries : IndexDef → ℕ → List Doc → List (ℕ × NumHit)
number_entries def number docs = filter_map (number_entry def number) docs

-- whether a field has ranges: it is NUMERIC, and not NOINDEX
abbrev pub is_ranged : Option Field → Bool
is_ranged None = false
is_ranged (Some field) = if field.noindex then false else is_numeric field.kind
