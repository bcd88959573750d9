-- What the words of FT.CREATE and FT.ALTER say (RediSearch): an index, fields, or the first fault.
use Rattle.std.specs.Prelude.{ℕ, ◌+◌, ◌-◌, List, [], ◌∷◌, ◌++◌, length, drop, Bool, codes, ◌||◌, nat_lt, unwrap_or, Result, Ok, Err, if◌then◌else◌}
use Rattle.std.specs.List.{list_any}
use Rattle.ft_base.specs.declared.definition.Field.{Field}
use Rattle.ft_base.specs.declared.definition.IndexDef.{IndexDef}
use Rattle.ft_schema.specs.declared.fault.Cause.{Cause}
use Rattle.ft_schema.specs.declared.fault.Cause.TheVariants as causes
use Rattle.ft_schema.specs.declared.fault.SchemaFault.{SchemaFault}
use Rattle.ft_schema.specs.declared.fault.SchemaFault.TheVariants.{BadOption, BadKind, DuplicateField, TooManyFields, BadNumber, OutOfScope, NoMemory}
use Rattle.ft_schema.specs.declared.fault.Stop.{Stop}
use Rattle.ft_schema.specs.declared.fault.Stop.TheVariants as stops
use Rattle.ft_schema.specs.Limits.{most_fields, most_texts}
use Rattle.ft_schema.specs.declared.index_options.IndexOptions.{IndexOptions}
use Rattle.ft_schema.specs.Names.{Word}
use Rattle.ft_base.specs.Names.{is_name}
use Rattle.ft_base.specs.Reading.{◌>>=◌}
use Rattle.ft_schema.specs.Reading.{fault}
use Rattle.ft_schema.specs.Options.{options_at}
use Rattle.ft_schema.specs.Fields.{fields_at, has_alias, text_count}

-- the stop words of an index that names none
abbrev pub default_stops : List Word
default_stops =
    codes "a" ∷ codes "is" ∷ codes "the" ∷ codes "an" ∷ codes "and" ∷ codes "are" ∷ codes "as" ∷ codes "at" ∷ codes "be"
    ∷ codes "but" ∷ codes "by" ∷ codes "for" ∷ codes "if" ∷ codes "in" ∷ codes "into" ∷ codes "it" ∷ codes "no"
    ∷ codes "not" ∷ codes "of" ∷ codes "on" ∷ codes "or" ∷ codes "such" ∷ codes "that" ∷ codes "their" ∷ codes "then"
    ∷ codes "there" ∷ codes "these" ∷ codes "they" ∷ codes "this" ∷ codes "to" ∷ codes "was" ∷ codes "will" ∷ codes "with"
    ∷ []

-- An index by its options. Without prefixes it takes every key.
abbrev pub index_by : Word → ℕ → IndexOptions → List Field → IndexDef
index_by name serial options fields = record {
  name = name;
  serial = serial;
  prefixes = unwrap_or options.prefixes [];
  stops = record { words = unwrap_or options.stops default_stops };
  fields = fields;
}

-- a word that has to stand there; what follows it
abbrev pub keyword_at : List ℕ → List Word → Result (List Word) Stop
keyword_at name [] = fault causes.BadOption []
keyword_at name (word ∷ words) = if is_name word name then Ok words else fault causes.BadOption (word ∷ words)

-- The words behind a name and options: SCHEMA, and fields.
abbrev pub index_behind : Word → ℕ → IndexOptions → List Word → Result IndexDef Stop
index_behind name serial options words = do
  rest ← keyword_at (codes "SCHEMA") words
  fields ← fields_at rest
  Ok (index_by name serial options fields.0)

-- The words behind FT.CREATE: a name, options, SCHEMA, and fields.
unfoldable pub index_at : ℕ → List Word → Result IndexDef Stop
index_at serial [] = fault causes.BadOption []
index_at serial (name ∷ words) = do
  options ← options_at words
  index_behind name serial options.0 options.1

-- The words behind FT.ALTER and the index's name: SCHEMA, ADD, and fields.
unfoldable pub added_at : List Word → Result (List Field) Stop
added_at words = do
  schema ← keyword_at (codes "SCHEMA") words
  rest ← keyword_at (codes "ADD") schema
  fields ← fields_at rest
  Ok fields.0

-- the fault at a word's number
abbrev pub fault_at : Cause → ℕ → SchemaFault
fault_at causes.BadOption at = BadOption at
fault_at causes.BadKind at = BadKind at
fault_at causes.DuplicateField at = DuplicateField at
fault_at causes.TooManyFields at = TooManyFields at
fault_at causes.BadNumber at = BadNumber at
fault_at causes.OutOfScope at = OutOfScope at

abbrev pub placed_fault : ℕ → Stop → SchemaFault
placed_fault total stops.NoMemory = NoMemory
placed_fault total (stops.Fault cause left) = fault_at cause (total - left)

-- A fault is placed by the number of all words, of which so many are left.
abbrev pub placed : {A : Type 0} → ℕ → Result A Stop → Result A SchemaFault
placed total (Ok x) = Ok x
placed total (Err stop) = Err (placed_fault total stop)

-- FT.CREATE
unfoldable pub create : List Word → ℕ → Result IndexDef SchemaFault
create words serial = placed (length words) (index_at serial (drop 1 words))

-- FT.ALTER
unfoldable pub alter : List Word → Result (List Field) SchemaFault
alter words = placed (length words) (added_at (drop 2 words))

-- whether an alias of the new fields is one of the old
abbrev pub has_any_alias : List Field → List Field → Bool
has_any_alias old new = list_any (λ (field : Field). has_alias old field.alias) new

-- whether the fields together are too many
abbrev pub is_over : List Field → List Field → Bool
is_over old new = nat_lt most_texts (text_count old + text_count new) || nat_lt most_fields (length old + length new)

-- An index with more fields. A fault stands at word 5 of FT.ALTER, whichever field it is.
unfoldable pub extended : IndexDef → List Field → Result IndexDef SchemaFault
extended index fields =
    if has_any_alias index.fields fields then Err (DuplicateField 5)
    else (if is_over index.fields fields then Err (TooManyFields 5)
    else Ok (record index { fields = index.fields ++ fields }))
