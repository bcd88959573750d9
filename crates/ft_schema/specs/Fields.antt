-- The fields of a schema: `name [AS alias] KIND option ..` (RediSearch, FT.CREATE).
use Rattle.std.specs.Prelude.{ℕ, List, [], ◌∷◌, ◌++◌, length, Bool, true, false, codes, ◌&&◌, nat_le, count_by, drop, unwrap_or, Option, Some, None, is_some, is_none, Ok, Err, if◌then◌else◌}
use Rattle.std.specs.List.{list_any}
use Rattle.std.specs.Str.{bytes_eq}
use Rattle.ft_base.specs.Kinds.{is_text}
use Rattle.ft_base.specs.declared.definition.Field.{Field}
use Rattle.ft_base.specs.declared.definition.FieldKind.{FieldKind}
use Rattle.ft_base.specs.declared.definition.FieldKind.TheVariants as indexed
use Rattle.ft_schema.specs.declared.fault.Cause.TheVariants.{BadOption, BadKind, DuplicateField, TooManyFields, OutOfScope}
use Rattle.ft_schema.specs.declared.names.Kind.{Kind}
use Rattle.ft_schema.specs.declared.names.Kind.TheVariants as kinds
use Rattle.ft_schema.specs.declared.names.FieldOption.{FieldOption}
use Rattle.ft_schema.specs.declared.names.FieldOption.TheVariants as option
use Rattle.ft_schema.specs.declared.field_options.FieldOptions.{FieldOptions}
use Rattle.ft_schema.specs.Limits.{most_fields, most_texts}
use Rattle.ft_schema.specs.Names.{Word, kind_of, field_option_of}
use Rattle.ft_base.specs.Names.{is_name}
use Rattle.ft_base.specs.Reading.{◌>>=◌, parts_at}
use Rattle.ft_schema.specs.Reading.{Read, fault, weight_at}

-- how many TEXT fields there are
abbrev pub text_count : List Field → ℕ
text_count fields = count_by (λ (field : Field). is_text field.kind) fields

-- whether a field has this alias
abbrev pub has_alias : List Field → Word → Bool
has_alias fields alias = list_any (λ (field : Field). bytes_eq alias field.alias) fields

-- The alias of a field, behind its name: the word after AS, which may be missing, else the name.
abbrev pub alias_at : Word → List Word → Option (Word × List Word)
alias_at name [] = Some (name, [])
alias_at name (word ∷ []) = if is_name word (codes "AS") then None else Some (name, word ∷ [])
alias_at name (word ∷ alias ∷ words) = if is_name word (codes "AS") then Some (alias, words) else Some (name, word ∷ alias ∷ words)

-- one field too many, at its name
abbrev pub unless_full : List Field → List Word → Read Word → Read Word
unless_full before from read = if nat_le most_fields (length before) then fault TooManyFields from else read

-- A field behind others is refused at its name where its alias repeats one, else where it is one too many.
abbrev pub admitted : List Field → List Word → Option (Word × List Word) → Read Word
admitted before from None = unless_full before from (fault BadOption [])
admitted before from (Some alias) = if has_alias before alias.0 then fault DuplicateField from else unless_full before from (Ok alias)

-- A kind, with the options that it has by default: tags are parted at commas and lowered.
abbrev pub kind_with : Kind → List Word → List Word → Read FieldKind
kind_with kinds.Text from words = Ok (indexed.Text, words)
kind_with kinds.Tag from words = Ok (indexed.Tag 44 false, words)
kind_with kinds.Numeric from words = Ok (indexed.Numeric, words)
kind_with kinds.LeftOut from words = fault OutOfScope from
kind_with kinds.Other from words = fault BadKind from

-- the kind of a field
unfoldable pub kind_at : List Word → Read FieldKind
kind_at [] = fault BadOption []
kind_at (word ∷ words) = kind_with (kind_of word) (word ∷ words) words

-- One TEXT field too many is refused at its name.
abbrev pub kind_admitted : List Field → List Word → Read FieldKind → Read FieldKind
kind_admitted before from (Err stop) = Err stop
kind_admitted before from (Ok kind) = if is_text kind.0 && nat_le most_texts (text_count before) then fault TooManyFields from else Ok kind

-- no option yet
abbrev pub no_field_options : FieldOptions
no_field_options = record { no_stem = false; weight = false; separator = None; case_sensitive = false; sortable = false; unf = false; no_index = false }

-- whether an option was there before
abbrev pub has_field_option : FieldOptions → FieldOption → Bool
has_field_option given option.NoStem = given.no_stem
has_field_option given option.Weight = given.weight
has_field_option given option.Separator = is_some given.separator
has_field_option given option.CaseSensitive = given.case_sensitive
has_field_option given option.Sortable = given.sortable
has_field_option given option.NoIndex = given.no_index
has_field_option given option.LeftOut = false

-- a separator is one byte
abbrev pub separator_with : Word → List Word → List Word → Read ℕ
separator_with (b ∷ []) from words = Ok (b, words)
separator_with [] from words = fault BadOption from
separator_with (b ∷ c ∷ bytes) from words = fault BadOption from

abbrev pub separator_at : List Word → Read ℕ
separator_at [] = fault BadOption []
separator_at (word ∷ words) = separator_with word (word ∷ words) words

abbrev pub is_at_unf : List Word → Bool
is_at_unf [] = false
is_at_unf (word ∷ words) = is_name word (codes "UNF")

-- WEIGHT: a weight, without effect
abbrev pub weighted_at : FieldOptions → List Word → Read FieldOptions
weighted_at given words = weight_at words >>= λ rest. Ok (record given { weight = true }, rest)

-- SEPARATOR: the byte that parts the tags
abbrev pub parted_at : FieldOptions → List Word → Read FieldOptions
parted_at given words = separator_at words >>= λ next. Ok (record given { separator = Some next.0 }, next.1)

-- SORTABLE, with UNF directly behind it or without. Anywhere else UNF is no option.
abbrev pub sortable_at : FieldOptions → List Word → FieldOptions × List Word
sortable_at given words =
    if is_at_unf words then (record given { sortable = true; unf = true }, drop 1 words)
    else (record given { sortable = true; unf = false }, words)

-- The words behind an option's name.
unfoldable pub field_option_with : FieldOption → FieldOptions → List Word → List Word → Read FieldOptions
field_option_with option.NoStem given from words = Ok (record given { no_stem = true }, words)
field_option_with option.Weight given from words = weighted_at given words
field_option_with option.Separator given from words = parted_at given words
field_option_with option.CaseSensitive given from words = Ok (record given { case_sensitive = true }, words)
field_option_with option.Sortable given from words = Ok (sortable_at given words)
field_option_with option.NoIndex given from words = Ok (record given { no_index = true }, words)
field_option_with option.LeftOut given from words = fault OutOfScope from

-- none may come twice
abbrev pub field_option_once : Option FieldOption → FieldOptions → List Word → List Word → Read FieldOptions
field_option_once None given from words = fault BadOption from
field_option_once (Some named) given from words = if has_field_option given named then fault BadOption from else field_option_with named given from words

-- An option behind others.
unfoldable pub field_option_at : FieldKind → FieldOptions → List Word → Read FieldOptions
field_option_at kind given [] = fault BadOption []
field_option_at kind given (word ∷ words) = field_option_once (field_option_of kind word) given (word ∷ words) words

-- whether a field's options end: no word follows, or one that is no option of it
unfoldable pub is_past_options : FieldKind → List Word → Bool
is_past_options kind [] = true
is_past_options kind (word ∷ words) = is_none (field_option_of kind word)

-- the options of a field of this kind
unfoldable pub field_options_at : FieldKind → List Word → Read FieldOptions
field_options_at kind words = parts_at (is_past_options kind) (field_option_at kind) no_field_options words

-- the kind with its options
abbrev pub kind_by : FieldKind → FieldOptions → FieldKind
kind_by indexed.Text options = indexed.Text
kind_by (indexed.Tag separator case) options = indexed.Tag (unwrap_or options.separator separator) options.case_sensitive
kind_by indexed.Numeric options = indexed.Numeric

abbrev pub field_by : Word → Word → FieldKind → FieldOptions → Field
field_by name alias kind options = record { name = name; alias = alias; kind = kind_by kind options; sortable = options.sortable; unf = options.unf; noindex = options.no_index }

-- A field behind others.
unfoldable pub field_at : List Field → List Word → Read Field
field_at before [] = fault BadOption []
field_at before (name ∷ words) = do
  alias ← admitted before (name ∷ words) (alias_at name words)
  kind ← kind_admitted before (name ∷ words) (kind_at alias.1)
  options ← field_options_at kind.0 kind.1
  Ok (field_by name alias.0 kind.0 options.0, options.1)

-- the fields with one more
abbrev pub next_field_at : List Field → List Word → Read (List Field)
next_field_at before words = field_at before words >>= λ field. Ok (before ++ field.0 ∷ [], field.1)

abbrev pub is_at_end : List Word → Bool
is_at_end [] = true
is_at_end (word ∷ words) = false

-- Fields up to the end of the words, at least one.
unfoldable pub fields_at : List Word → Read (List Field)
fields_at [] = fault BadOption []
fields_at (word ∷ words) = parts_at is_at_end next_field_at [] (word ∷ words)
