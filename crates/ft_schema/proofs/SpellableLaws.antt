-- What words say can be spelled.
use Rattle.std.proofs.Common.{◌≡◌, ℕ, List, [], ◌∷◌, length, drop, Result, Ok, Err, ap, subst}
use Rattle.std.specs.Prelude.{codes}
use Rattle.ft_base.specs.declared.definition.Field.{Field}
use Rattle.ft_base.specs.declared.definition.IndexDef.{IndexDef}
use Rattle.ft_base.proofs.ReadingLaws.{both}
use Rattle.ft_schema.specs.declared.fault.Stop.{Stop}
use Rattle.ft_schema.specs.declared.index_options.IndexOptions.{IndexOptions}
use Rattle.ft_schema.specs.Fields.{fields_at}
use Rattle.ft_schema.specs.Names.{Word}
use Rattle.ft_schema.specs.Options.{options_at}
use Rattle.ft_schema.specs.Schema.{keyword_at, index_by, index_at, added_at, placed, create, alter}
use Rattle.ft_schema.specs.Spellable.{AreSpellable, IsSpellable}
use Rattle.ft_schema.specs.Spelling.{create_words}
use Rattle.ft_schema.proofs.FieldsSpellable.{fields-spellable}
use Rattle.ft_schema.proofs.LawfulLaws.{is_ok_of}
use Rattle.ft_schema.proofs.OptionsSpellable.{Holds, options-hold}
use Rattle.ft_schema.proofs.SerialLaws.{index-is_numbered}
use Rattle.ft_schema.proofs.SpelledAgain.{created_again}

index_by-spellable : (name : Word) (serial : ℕ) (options : IndexOptions) (fields : List Field) → Holds options
    → AreSpellable fields → IsSpellable (index_by name serial options fields)
index_by-spellable name serial options fields holds can = record {
  fields = can;
  lower = holds.lower;
  prefix_count = holds.prefix_count;
  stop_count = holds.stop_count;
}

index-spellable : (serial : ℕ) (words : List Word) (index : IndexDef) → index_at serial words ≡ Ok index
    → IsSpellable index
unfolding index_at
index-spellable serial [] index e = absurd (cc)
index-spellable serial (name ∷ words) index e =
    let options = both (options_at words) _ _ e in
    let schema = both (keyword_at (codes "SCHEMA") options.read.1) _ _ options.next_is in
    let fields = both (fields_at schema.read) _ _ schema.next_is in
    let same : index_by name serial options.read.0 fields.read.0 ≡ index = is_ok_of fields.next_is in
    subst IsSpellable same
    (index_by-spellable name serial options.read.0 fields.read.0 (options-hold words options.read options.first_is)
    (fields-spellable schema.read fields.read fields.first_is))

added-spellable : (words : List Word) (fields : List Field) → added_at words ≡ Ok fields → AreSpellable fields
unfolding added_at
added-spellable words fields e =
    let schema = both (keyword_at (codes "SCHEMA") words) _ _ e in
    let add = both (keyword_at (codes "ADD") schema.read) _ _ schema.next_is in
    let read = both (fields_at add.read) _ _ add.next_is in
    subst AreSpellable (is_ok_of read.next_is) (fields-spellable add.read read.read read.first_is)

-- what is read without a fault is what reading gives
placed-Ok : {A : Type 0} (total : ℕ) (read : Result A Stop) (a : A) → placed total read ≡ Ok a → read ≡ Ok a
placed-Ok total (Ok b) a e = ap (λ x. Ok x) (is_ok_of e)
placed-Ok total (Err stop) a e = absurd (cc)

-- what FT.CREATE defines can be spelled
pub created-spellable : (words : List Word) (serial : ℕ) (index : IndexDef) → create words serial ≡ Ok index
    → IsSpellable index
unfolding create
created-spellable words serial index e =
    index-spellable serial (drop 1 words) index (placed-Ok (length words) (index_at serial (drop 1 words)) index e)

-- what FT.ALTER adds can be spelled
pub altered-spellable : (words : List Word) (fields : List Field) → alter words ≡ Ok fields → AreSpellable fields
unfolding alter
altered-spellable words fields e =
    added-spellable (drop 2 words) fields (placed-Ok (length words) (added_at (drop 2 words)) fields e)

created-numbered : (words : List Word) (serial : ℕ) (index : IndexDef) → create words serial ≡ Ok index
    → index.serial ≡ serial
unfolding create
created-numbered words serial index e =
    index-is_numbered serial (drop 1 words) index (placed-Ok (length words) (index_at serial (drop 1 words)) index e)

-- and read anew as the same
pub read-anew : (words : List Word) (serial : ℕ) (index : IndexDef) → create words serial ≡ Ok index
    → create (create_words index) serial ≡ Ok index
read-anew words serial index e =
    subst (λ (n : ℕ). create (create_words index) n ≡ Ok index) (created-numbered words serial index e)
    (created_again index (created-spellable words serial index e))
