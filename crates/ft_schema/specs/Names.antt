-- The words that name options and kinds (RediSearch, FT.CREATE). They are read in any case.
use Rattle.std.specs.Prelude.{ℕ, List, Bool, ◌||◌, codes, Option, Some, None, if◌then◌else◌}
use Rattle.ft_base.specs.Names.{is_name}
use Rattle.ft_base.specs.declared.definition.FieldKind.{FieldKind}
use Rattle.ft_base.specs.declared.definition.FieldKind.TheVariants as indexed
use Rattle.ft_schema.specs.declared.names.IndexOption.{IndexOption}
use Rattle.ft_schema.specs.declared.names.IndexOption.TheVariants as index
use Rattle.ft_schema.specs.declared.names.FieldOption.{FieldOption}
use Rattle.ft_schema.specs.declared.names.FieldOption.TheVariants as field
use Rattle.ft_schema.specs.declared.names.Kind.{Kind}
use Rattle.ft_schema.specs.declared.names.Kind.TheVariants as kinds

abbrev pub Word : Type 0
Word = List ℕ

-- options of an index that RediSearch has and this server leaves out
abbrev pub is_left_out_option : Word → Bool
is_left_out_option word =
    is_name word (codes "LANGUAGE")
    || (is_name word (codes "LANGUAGE_FIELD")
    || (is_name word (codes "SCORE_FIELD")
    || (is_name word (codes "PAYLOAD_FIELD")
    || (is_name word (codes "FILTER")
    || (is_name word (codes "TEMPORARY")
    || (is_name word (codes "NOOFFSETS")
    || (is_name word (codes "NOFIELDS")
    || is_name word (codes "SKIPINITIALSCAN"))))))))

unfoldable pub index_option_of : Word → IndexOption
index_option_of word =
    if is_name word (codes "ON") then index.On
    else (if is_name word (codes "PREFIX") then index.Prefix
    else (if is_name word (codes "STOPWORDS") then index.StopWords
    else (if is_name word (codes "MAXTEXTFIELDS") then index.MaxTextFields
    else (if is_name word (codes "NOHL") then index.NoHighlights
    else (if is_name word (codes "NOFREQS") then index.NoFrequencies
    else (if is_name word (codes "SCORE") then index.Score
    else (if is_left_out_option word then index.LeftOut
    else index.Other)))))))

unfoldable pub kind_of : Word → Kind
kind_of word =
    if is_name word (codes "TEXT") then kinds.Text
    else (if is_name word (codes "TAG") then kinds.Tag
    else (if is_name word (codes "NUMERIC") then kinds.Numeric
    else (if is_name word (codes "GEO") || (is_name word (codes "GEOSHAPE") || is_name word (codes "VECTOR")) then kinds.LeftOut
    else kinds.Other)))

-- options of a field that RediSearch has and this server leaves out, behind every kind
abbrev pub is_left_out_field_option : Word → Bool
is_left_out_field_option word =
    is_name word (codes "PHONETIC")
    || (is_name word (codes "WITHSUFFIXTRIE")
    || (is_name word (codes "INDEXEMPTY")
    || is_name word (codes "INDEXMISSING")))

abbrev pub text_option_of : Word → Option FieldOption
text_option_of word =
    if is_name word (codes "NOSTEM") then Some field.NoStem
    else (if is_name word (codes "WEIGHT") then Some field.Weight
    else None)

abbrev pub tag_option_of : Word → Option FieldOption
tag_option_of word =
    if is_name word (codes "SEPARATOR") then Some field.Separator
    else (if is_name word (codes "CASESENSITIVE") then Some field.CaseSensitive
    else None)

-- the options that one kind alone has
abbrev pub kind_option_of : FieldKind → Word → Option FieldOption
kind_option_of indexed.Text word = text_option_of word
kind_option_of (indexed.Tag separator case) word = tag_option_of word
kind_option_of indexed.Numeric word = None

-- The option that a word names behind a field of this kind. Where it names none, the next field begins.
unfoldable pub field_option_of : FieldKind → Word → Option FieldOption
field_option_of kind word =
    if is_name word (codes "SORTABLE") then Some field.Sortable
    else (if is_name word (codes "NOINDEX") then Some field.NoIndex
    else (if is_left_out_field_option word then Some field.LeftOut
    else kind_option_of kind word))
