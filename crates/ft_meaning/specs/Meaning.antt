-- What a query finds (RediSearch, dialect 2), document by document and from the plain hashes alone.
use Rattle.std.specs.Prelude.{ℕ, ◌≤◌, List, [], length, Bool, ◌&&◌, not, Option, Some, None, filter, if◌then◌else◌}
use Rattle.std.specs.List.{All, list_any}
use Rattle.std.specs.Str.{bytes_eq}
use Rattle.ft_base.specs.Hash.{Hash, get_field}
use Rattle.ft_base.specs.Kinds.{is_text}
use Rattle.ft_base.specs.declared.definition.Field.{Field}
use Rattle.ft_base.specs.declared.definition.IndexDef.{IndexDef}
use Rattle.ft_base.specs.Docs.{Doc}
use Rattle.ft_base.specs.declared.limits.TheConstants.{MAX_WORD_BYTES}
use Rattle.ft_meaning.specs.Member.{members}
use Rattle.token_text.specs.Tokens.{tokens}
use Rattle.token_text.specs.declared.token.Token.{Token}

-- each value of a hash came as a word of a command
abbrev pub ValuesFit : Hash → Type 0
ValuesFit hash = All (λ (field : List ℕ × List ℕ). length field.1 ≤ MAX_WORD_BYTES) hash

-- whether a field's words are found: it is TEXT, and not NOINDEX
abbrev pub has_words : Field → Bool
has_words field = is_text field.kind && not field.noindex

abbrev pub value_tokens : List (List ℕ) → Option (List ℕ) → List Token
value_tokens stops None = []
value_tokens stops (Some value) = tokens value stops

-- the tokens of a document's field, where its words are found
abbrev pub field_tokens : IndexDef → Doc → Field → List Token
field_tokens def doc field = if has_words field then value_tokens def.stops.words (get_field doc.hash field.name) else []

-- whether a word is among tokens
abbrev pub has_word : List ℕ → List Token → Bool
has_word word found = list_any (λ (token : Token). bytes_eq word token.word) found

-- The documents that a test of one document finds: the members that pass, in their order. Each query is such a test.
abbrev pub found_by : (IndexDef → Doc → Bool) → IndexDef → List Doc → List Doc
found_by holds def docs = filter (holds def) (members def docs)
