-- How fields and indexes are spelled in the words of FT.CREATE and FT.ALTER (RediSearch): with all that they have, in
-- one order, and with the names of options and kinds in capitals.
use Rattle.std.specs.Prelude.{List, [], ◌∷◌, ◌++◌, length, flat_map, Bool, codes, if◌then◌else◌}
use Rattle.std.specs.Fmt.{decimal}
use Rattle.ft_base.specs.declared.definition.Field.{Field}
use Rattle.ft_base.specs.declared.definition.FieldKind.{FieldKind}
use Rattle.ft_base.specs.declared.definition.FieldKind.TheVariants.{Text, Tag, Numeric}
use Rattle.ft_base.specs.declared.definition.IndexDef.{IndexDef}
use Rattle.ft_schema.specs.Names.{Word}

-- an option of one word, where it is set
abbrev pub option_words : Word → Bool → List Word
option_words name set = if set then name ∷ [] else []

-- SORTABLE, and UNF directly behind it
abbrev pub sortable_words : Bool → Bool → List Word
sortable_words sortable unf = if sortable then codes "SORTABLE" ∷ option_words (codes "UNF") unf else []

-- the word for a kind
abbrev pub kind_word : FieldKind → Word
kind_word Text = codes "TEXT"
kind_word (Tag separator case) = codes "TAG"
kind_word Numeric = codes "NUMERIC"

-- The options of a kind alone. No word is stemmed here, so TEXT has NOSTEM, and TAG names its separator.
abbrev pub kind_option_words : FieldKind → List Word
kind_option_words Text = codes "NOSTEM" ∷ []
kind_option_words (Tag separator case) = codes "SEPARATOR" ∷ (separator ∷ []) ∷ option_words (codes "CASESENSITIVE") case
kind_option_words Numeric = []

-- A field's options: SORTABLE first, so that a kind's own options part it from the next field's name, which may be UNF.
abbrev pub field_option_words : Field → List Word
field_option_words field =
    sortable_words field.sortable field.unf
    ++ (kind_option_words field.kind ++ option_words (codes "NOINDEX") field.noindex)

-- name AS alias KIND option ..
abbrev pub field_words : Field → List Word
field_words field = field.name ∷ codes "AS" ∷ field.alias ∷ kind_word field.kind ∷ field_option_words field

-- an option's name, the number of its words, and these
abbrev pub counted : Word → List Word → List Word
counted name words = name ∷ decimal (length words) ∷ words

-- PREFIX number prefix .., where there are prefixes
abbrev pub prefix_words : List Word → List Word
prefix_words [] = []
prefix_words (prefix ∷ prefixes) = counted (codes "PREFIX") (prefix ∷ prefixes)

-- SCHEMA field ..
abbrev pub schema_words : List Field → List Word
schema_words fields = codes "SCHEMA" ∷ flat_map field_words fields

-- FT.CREATE name [PREFIX number prefix ..] STOPWORDS number word .. SCHEMA field ..
abbrev pub create_words : IndexDef → List Word
create_words index =
    codes "FT.CREATE" ∷ index.name
    ∷ (prefix_words index.prefixes ++ (counted (codes "STOPWORDS") index.stops.words ++ schema_words index.fields))

-- FT.ALTER name SCHEMA ADD field ..
abbrev pub alter_words : Word → List Field → List Word
alter_words name fields = codes "FT.ALTER" ∷ name ∷ codes "SCHEMA" ∷ codes "ADD" ∷ flat_map field_words fields
