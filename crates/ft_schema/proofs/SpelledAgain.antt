-- Definitions are read back from the words that spell them.
use Rattle.std.proofs.Common.{◌≡◌, List, [], ◌∷◌, ◌++◌, length, drop, flat_map, unwrap_or, Result, Ok, refl, ap}
use Rattle.std.specs.Prelude.{codes}
use Rattle.ft_base.specs.declared.definition.Field.{Field}
use Rattle.ft_base.specs.declared.definition.IndexDef.{IndexDef}
use Rattle.ft_schema.specs.declared.fault.Stop.{Stop}
use Rattle.ft_schema.specs.Fields.{fields_at}
use Rattle.ft_schema.specs.Names.{Word}
use Rattle.ft_schema.specs.Options.{options_at}
use Rattle.ft_schema.specs.Schema.{index_at, added_at, placed, create, alter}
use Rattle.ft_schema.specs.Spellable.{AreSpellable, IsSpellable}
use Rattle.ft_schema.specs.Spelling.{field_words, counted, prefix_words, schema_words, create_words, alter_words}
use Rattle.ft_schema.proofs.FieldsAgain.{fields_again}
use Rattle.ft_schema.proofs.OptionsAgain.{some_of, with_both, options_again}
use Rattle.ft_schema.proofs.Steps.{reads_on}

-- no prefixes are as good as an empty list of them
all_of : (prefixes : List Word) → unwrap_or (some_of prefixes) [] ≡ prefixes
all_of [] = refl
all_of (prefix ∷ prefixes) = refl

abbrev answer : IndexDef → Result IndexDef Stop
answer index = Ok index

index_again : (index : IndexDef) → IsSpellable index → index_at index.serial (drop 1 (create_words index)) ≡ Ok index
unfolding index_at
index_again index can =
    let schema = schema_words index.fields in
    let options : List Word = prefix_words index.prefixes ++ (counted (codes "STOPWORDS") index.stops.words ++ schema) in
    reads_on (options_at options) _ (with_both (some_of index.prefixes) index.stops.words, schema) _
    (options_again index.prefixes index.stops.words (flat_map field_words index.fields)
    can.prefix_count can.lower can.stop_count)
    (reads_on (fields_at (flat_map field_words index.fields)) _ (index.fields, []) _ (fields_again index.fields can.fields)
    (ap (λ (prefixes : List Word). answer (record index { prefixes = prefixes })) (all_of index.prefixes)))

-- an index is read back
pub created_again : (index : IndexDef) → IsSpellable index → create (create_words index) index.serial ≡ Ok index
unfolding create
created_again index can = ap (placed (length (create_words index))) (index_again index can)

added_again : (name : Word) (fields : List Field) → AreSpellable fields
    → added_at (drop 2 (alter_words name fields)) ≡ Ok fields
unfolding added_at
added_again name fields can =
    reads_on (fields_at (flat_map field_words fields)) _ (fields, []) _ (fields_again fields can) refl

-- added fields are read back
pub altered_again : (name : Word) (fields : List Field) → AreSpellable fields
    → alter (alter_words name fields) ≡ Ok fields
unfolding alter
altered_again name fields can = ap (placed (length (alter_words name fields))) (added_again name fields can)
