-- What the definitions say of some commands, whose words are parted by blanks here.
use Rattle.std.proofs.Common.{◌≡◌, ℕ, List, [], ◌∷◌, Some, pos, Result, Ok, Err, true, false, refl, map, ◌==◌, cond}
use Rattle.std.specs.Prelude.{codes}
use Rattle.ft_base.specs.declared.definition.Field.{Field}
use Rattle.ft_base.specs.declared.definition.FieldKind.{FieldKind}
use Rattle.ft_base.specs.declared.definition.FieldKind.TheVariants.{Text, Tag, Numeric}
use Rattle.ft_base.specs.declared.definition.IndexDef.{IndexDef}
use Rattle.ft_base.specs.Reading.{parts_at}
use Rattle.ft_schema.specs.declared.fault.SchemaFault.{SchemaFault}
use Rattle.ft_schema.specs.declared.fault.SchemaFault.TheVariants.{BadOption, BadKind, DuplicateField, BadNumber, OutOfScope}
use Rattle.ft_schema.specs.declared.fault.Cause.TheVariants as causes
use Rattle.ft_schema.specs.Names.{Word, index_option_of, kind_of, field_option_of}
use Rattle.ft_schema.specs.Reading.{fault, count_with, weight_at}
use Rattle.ft_schema.specs.Options.{option_at, option_with}
use Rattle.ft_schema.specs.Fields.{kind_at, field_option_at, field_option_with, field_options_at, is_past_options, field_at, fields_at}
use Rattle.ft_schema.specs.Schema.{index_at, create, added_at, alter, default_stops}

-- the first word of a text, and the others
abbrev pieces : List ℕ → List ℕ × List Word
pieces [] = ([], [])
pieces (b ∷ text) = cond (b == 32) ([], (pieces text).0 ∷ (pieces text).1) (b ∷ (pieces text).0, (pieces text).1)

abbrev pub words : List ℕ → List Word
words text = (pieces text).0 ∷ (pieces text).1

-- a command, and what it is answered
abbrev Row : Type 0 → Type 0
Row A = List ℕ × Result A SchemaFault

abbrev created : List (Row IndexDef) → List (Result IndexDef SchemaFault)
created rows = map (λ (row : Row IndexDef). create (words row.0) 7) rows

abbrev wanted : {A : Type 0} → List (Row A) → List (Result A SchemaFault)
wanted rows = map (λ row. row.1) rows

-- commands of FT.CREATE with a fault, and where it stands
abbrev faulty : List (Row IndexDef)
faulty =
    (codes "FT.CREATE ix NOHL nohl SCHEMA t TEXT", Err (BadOption 3))
    ∷ (codes "FT.CREATE ix ON JSON SCHEMA t TEXT", Err (OutOfScope 3))
    ∷ (codes "FT.CREATE ix SCORE .5 SCHEMA t TEXT", Err (BadNumber 3))
    ∷ (codes "FT.CREATE ix LANGUAGE english SCHEMA t TEXT", Err (OutOfScope 2))
    ∷ (codes "FT.CREATE ix NOHL NOFREQS", Err (BadOption 4))
    ∷ (codes "FT.CREATE ix NOHL NOFREQS SCHEMA", Err (BadOption 5))
    ∷ (codes "FT.CREATE ix SCHEMA t STRING", Err (BadKind 4))
    ∷ (codes "FT.CREATE ix SCHEMA t GEO", Err (OutOfScope 4))
    ∷ (codes "FT.CREATE ix SCHEMA t TEXT u AS t TAG", Err (DuplicateField 5))
    ∷ (codes "FT.CREATE ix SCHEMA t TAG SEPARATOR ;;", Err (BadOption 6))
    ∷ (codes "FT.CREATE ix SCHEMA t TEXT NOSTEM nostem", Err (BadOption 6))
    ∷ (codes "FT.CREATE ix SCHEMA t TEXT UNF SORTABLE", Err (BadKind 6))
    ∷ (codes "FT.CREATE ix SCHEMA t NUMERIC PHONETIC x", Err (OutOfScope 5))
    ∷ []

each_fault : created faulty ≡ wanted faulty
unfolding index_option_of kind_of field_option_of weight_at parts_at option_at option_with kind_at field_option_at field_option_with field_options_at is_past_options field_at fields_at index_at create
each_fault = refl

-- a field, as its words give it
abbrev pub field : List ℕ → List ℕ → FieldKind → Field
field name alias kind = record { name = name; alias = alias; kind = kind; sortable = false; unf = false; noindex = false }

abbrev index : List Word → List Field → Result IndexDef SchemaFault
index stops fields = Ok (record { name = codes "ix"; serial = 7; prefixes = []; stops = record { words = stops }; fields = fields })

-- commands of FT.CREATE without a fault
abbrev lawful : List (Row IndexDef)
lawful =
    (codes "FT.CREATE ix SCHEMA t TEXT", index default_stops (field (codes "t") (codes "t") Text ∷ []))
    ∷ (codes "ft.create ix on hash nohl score 1.5 schema t as u text nostem weight 2", index default_stops (field (codes "t") (codes "u") Text ∷ []))
    ∷ (codes "FT.CREATE ix SCHEMA g TAG CASESENSITIVE SEPARATOR ; n NUMERIC", index default_stops (field (codes "g") (codes "g") (Tag 59 true) ∷ field (codes "n") (codes "n") Numeric ∷ []))
    ∷ (
      codes "FT.CREATE ix SCHEMA g TAG SORTABLE UNF UNF TAG NOINDEX",
      index default_stops (record { name = codes "g"; alias = codes "g"; kind = Tag 44 false; sortable = true; unf = true; noindex = false }
          ∷ record { name = codes "UNF"; alias = codes "UNF"; kind = Tag 44 false; sortable = false; unf = false; noindex = true } ∷ []),
    )
    ∷ []

each_lawful : created lawful ≡ wanted lawful
unfolding index_option_of kind_of field_option_of weight_at parts_at option_at option_with kind_at field_option_at field_option_with field_options_at is_past_options field_at fields_at index_at create
each_lawful = refl

-- a count of 0 where there is to be a word at least
count_zero : count_with 1 (Some (pos 0)) (words (codes "0 SCHEMA t TEXT")) (words (codes "SCHEMA t TEXT")) ≡ fault causes.BadNumber (words (codes "0 SCHEMA t TEXT"))
count_zero = refl

-- a count of more words than there are
count_over : count_with 1 (Some (pos 4)) (words (codes "4 SCHEMA t TEXT")) (words (codes "SCHEMA t TEXT")) ≡ fault causes.BadNumber (words (codes "4 SCHEMA t TEXT"))
count_over = refl

-- FT.ALTER of one field, and with another word than ADD
altered : map (λ text. alter (words text)) (codes "FT.ALTER ix SCHEMA ADD n NUMERIC" ∷ codes "FT.ALTER ix schema PUT n NUMERIC" ∷ [])
    ≡ Ok (field (codes "n") (codes "n") Numeric ∷ []) ∷ Err (BadOption 3) ∷ []
unfolding kind_of field_option_of parts_at kind_at field_option_at field_option_with field_options_at is_past_options field_at fields_at added_at alter
altered = refl
