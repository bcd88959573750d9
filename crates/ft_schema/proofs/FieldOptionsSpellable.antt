-- What the options of a field say can be spelled.
use Rattle.std.proofs.Common.{◌≡◌, ℕ, ◌<◌, ◌≤◌, Bool, true, false, cond, List, [], ◌∷◌, length, drop, Option, Some, None, Result, Ok, refl, ap, subst, arith, length-drop}
use Rattle.std.specs.Prelude.{codes}
use Rattle.std.proofs.lemmas.Bool.{true≢false, false≢true}
use Rattle.ft_base.specs.Kinds.{is_numeric}
use Rattle.ft_base.specs.Names.{is_name}
use Rattle.ft_base.specs.Weight.{is_weight}
use Rattle.ft_base.proofs.ReadingLaws.{both}
use Rattle.ft_base.specs.declared.definition.FieldKind.{FieldKind}
use Rattle.ft_base.specs.declared.definition.FieldKind.TheVariants as indexed
use Rattle.ft_base.proofs.PartsLaws.{all_keep}
use Rattle.ft_schema.specs.declared.fault.Cause.TheVariants.{BadOption, BadNumber}
use Rattle.ft_schema.specs.declared.fault.Stop.{Stop}
use Rattle.ft_schema.specs.declared.field_options.FieldOptions.{FieldOptions}
use Rattle.ft_schema.specs.declared.names.FieldOption.{FieldOption}
use Rattle.ft_schema.specs.declared.names.FieldOption.TheVariants as option
use Rattle.ft_schema.specs.Fields.{no_field_options, has_field_option, separator_at, is_at_unf, field_option_with, field_option_once, field_option_at, is_past_options, field_options_at}
use Rattle.ft_schema.specs.Names.{Word, is_left_out_field_option, field_option_of}
use Rattle.ft_schema.specs.Reading.{Read, fault, weight_at}
use Rattle.ft_schema.proofs.LawfulLaws.{is_ok_of}
use Rattle.ft_schema.proofs.Steps.{read_as, not_refused, ended_so}

abbrev answer : FieldOptions × List Word → Read FieldOptions
answer read = Ok read

-- UNF is given only where SORTABLE is
abbrev IsUnfGiven : FieldOptions → Type 0
IsUnfGiven given = given.unf ≡ true → given.sortable ≡ true

-- what an option leaves: no more words, and UNF only where SORTABLE is
record Keeps (given : FieldOptions) (words : List Word) (read : FieldOptions × List Word) : Type 0 where
  fewer : length read.1 ≤ length words
  unf : IsUnfGiven given → IsUnfGiven read.0

answered : (given after : FieldOptions) (words rest : List Word) (read : FieldOptions × List Word)
    → length rest ≤ length words → (IsUnfGiven given → IsUnfGiven after) → read_as after rest ≡ Ok read
    → Keeps given words read
answered given after words rest read fewer unf e =
    let keeps : Keeps given words (after, rest) = record { fewer = fewer; unf = unf } in
    subst (λ (r : FieldOptions × List Word). Keeps given words r) (is_ok_of e) keeps

weight-fewer : (words rest : List Word) → weight_at words ≡ Ok rest → length rest ≤ length words
unfolding weight_at
weight-fewer [] rest e = absurd (cc)
weight-fewer (word ∷ words) rest e = by_test (is_weight word) e
  where
    by_test : (weight : Bool) → cond {A = Result (List Word) Stop} weight (Ok words) (fault BadNumber (word ∷ words)) ≡ Ok rest
        → length rest ≤ length (word ∷ words)
    by_test true e = omega (arith, ap length (is_ok_of e))
    by_test false e = absurd (cc)

separator-fewer : (words : List Word) (read : ℕ × List Word) → separator_at words ≡ Ok read → length read.1 ≤ length words
separator-fewer [] read e = absurd (cc)
separator-fewer ([] ∷ words) read e = absurd (cc)
separator-fewer ((b ∷ []) ∷ words) read e =
    let same : (b, words) ≡ read = is_ok_of e in
    omega (arith, ap (λ (r : ℕ × List Word). length r.1) same)
separator-fewer ((b ∷ c ∷ bytes) ∷ words) read e = absurd (cc)

-- SORTABLE with UNF or without
abbrev sorted : FieldOptions → List Word → Bool → FieldOptions × List Word
sorted given words unf =
    cond unf (record given { sortable = true; unf = true }, drop 1 words) (record given { sortable = true; unf = false }, words)

option-keeps : (named : FieldOption) (given : FieldOptions) (from words : List Word) (read : FieldOptions × List Word)
    → field_option_with named given from words ≡ Ok read → Keeps given words read
unfolding field_option_with
option-keeps option.NoStem given from words read e =
    answered given (record given { no_stem = true }) words words read (omega arith) (λ unf. unf) e
option-keeps option.Weight given from words read e =
    let rest = both (weight_at words) _ _ e in
    answered given (record given { weight = true }) words rest.read read
    (weight-fewer words rest.read rest.first_is) (λ unf. unf) rest.next_is
option-keeps option.Separator given from words read e =
    let next = both (separator_at words) _ _ e in
    answered given (record given { separator = Some next.read.0 }) words next.read.1 read
    (separator-fewer words next.read next.first_is) (λ unf. unf) next.next_is
option-keeps option.CaseSensitive given from words read e =
    answered given (record given { case_sensitive = true }) words words read (omega arith) (λ unf. unf) e
option-keeps option.Sortable given from words read e = by_test (is_at_unf words) e
  where
    by_test : (unf : Bool) → answer (sorted given words unf) ≡ Ok read → Keeps given words read
    by_test true e =
        answered given (record given { sortable = true; unf = true }) words (drop 1 words) read
        (omega (arith, length-drop 1 words)) (λ _ _. refl) e
    by_test false e =
        answered given (record given { sortable = true; unf = false }) words words read (omega arith) (λ _ _. refl) e
option-keeps option.NoIndex given from words read e =
    answered given (record given { no_index = true }) words words read (omega arith) (λ unf. unf) e
option-keeps option.LeftOut given from words read e = absurd (cc)

once-keeps : (named : Option FieldOption) (given : FieldOptions) (from words : List Word) (read : FieldOptions × List Word)
    → field_option_once named given from words ≡ Ok read → Keeps given words read
once-keeps None given from words read e = absurd (cc)
once-keeps (Some named) given from words read e =
    option-keeps named given from words read (not_refused (has_field_option given named) BadOption from _ read e)

one-shorter : (kind : FieldKind) (given : FieldOptions) (words : List Word) (read : FieldOptions × List Word)
    → field_option_at kind given words ≡ Ok read → length read.1 < length words
unfolding field_option_at
one-shorter kind given [] read e = absurd (cc)
one-shorter kind given (word ∷ words) read e =
    let keeps = once-keeps (field_option_of kind word) given (word ∷ words) words read e in
    omega (arith, keeps.fewer)

one-unf : (kind : FieldKind) (given : FieldOptions) (words : List Word) (read : FieldOptions × List Word)
    → IsUnfGiven given → field_option_at kind given words ≡ Ok read → IsUnfGiven read.0
unfolding field_option_at
one-unf kind given [] read unf e = absurd (cc)
one-unf kind given (word ∷ words) read unf e = (once-keeps (field_option_of kind word) given (word ∷ words) words read e).unf unf

-- Where SORTABLE came last, and without UNF, no UNF follows.
abbrev pub IsOpen : FieldOptions → List Word → Type 0
IsOpen given words = given.sortable ≡ true → given.unf ≡ false → given.no_index ≡ false → is_at_unf words ≡ false

-- the option of a NUMERIC field that a word names, by three tests of the word
abbrev named : Bool → Bool → Bool → Option FieldOption
named sortable noindex left_out =
    cond sortable (Some option.Sortable) (cond noindex (Some option.NoIndex) (cond left_out (Some option.LeftOut) None))

-- Behind a NUMERIC field no option but NOINDEX parts SORTABLE from what follows.
numeric-open : (given : FieldOptions) (words : List Word) (read : FieldOptions × List Word) → IsOpen given words
    → field_option_at indexed.Numeric given words ≡ Ok read → IsOpen read.0 read.1
unfolding field_option_of field_option_at field_option_with
numeric-open given [] read open_before e = absurd (cc)
numeric-open given (word ∷ words) read open_before e =
    by_name (is_name word (codes "SORTABLE")) (is_name word (codes "NOINDEX")) (is_left_out_field_option word) e
  where
    moved : (after : FieldOptions) (rest : List Word) → IsOpen after rest → read_as after rest ≡ Ok read
        → IsOpen read.0 read.1
    moved after rest is e = subst (λ (r : FieldOptions × List Word). IsOpen r.0 r.1) (is_ok_of e) is

    by_unf : (unf : Bool) → is_at_unf words ≡ unf → answer (sorted given words unf) ≡ Ok read → IsOpen read.0 read.1
    by_unf true next e = moved (record given { sortable = true; unf = true }) (drop 1 words) (λ s u n. absurd (true≢false u)) e
    by_unf false next e = moved (record given { sortable = true; unf = false }) words (λ s u n. next) e

    by_name : (sortable noindex left_out : Bool)
        → field_option_once (named sortable noindex left_out) given (word ∷ words) words ≡ Ok read → IsOpen read.0 read.1
    by_name true noindex left_out e = by_unf (is_at_unf words) refl (not_refused given.sortable BadOption (word ∷ words) _ read e)
    by_name false true left_out e =
        moved (record given { no_index = true }) words (λ s u n. absurd (true≢false n))
        (not_refused given.no_index BadOption (word ∷ words) _ read e)
    by_name false false true e = absurd (cc)
    by_name false false false e = absurd (cc)

-- what is read of a field's options
pub record OptionsSay (kind : FieldKind) (read : FieldOptions × List Word) : Type 0 where
  pub past : is_past_options kind read.1 ≡ true
  pub unf : read.0.unf ≡ true → read.0.sortable ≡ true
  pub plain : is_numeric kind ≡ true → IsOpen read.0 read.1

pub field_options-say : (kind : FieldKind) (words : List Word) (read : FieldOptions × List Word)
    → field_options_at kind words ≡ Ok read → OptionsSay kind read
unfolding field_options_at
field_options-say kind words read e = record {
  past = ended_so FieldOptions (is_past_options kind) (field_option_at kind) (one-shorter kind) no_field_options words read e;
  unf = kept (λ given rest. IsUnfGiven given) kind (one-unf kind) (λ u. absurd (false≢true u)) e;
  plain = by_kind kind e;
}
  where
    kept : (P : FieldOptions → List Word → Type 0) (k : FieldKind)
        → ((given : FieldOptions) (from : List Word) (to : FieldOptions × List Word) → P given from
        → field_option_at k given from ≡ Ok to → P to.0 to.1)
        → P no_field_options words → field_options_at k words ≡ Ok read → P read.0 read.1
    kept P k keeps p e = all_keep P (is_past_options k) (field_option_at k) keeps no_field_options words read p e

    by_kind : (k : FieldKind) → field_options_at k words ≡ Ok read → is_numeric k ≡ true → IsOpen read.0 read.1
    by_kind indexed.Text e numeric = absurd (false≢true numeric)
    by_kind (indexed.Tag separator case) e numeric = absurd (false≢true numeric)
    by_kind indexed.Numeric e numeric = kept IsOpen indexed.Numeric numeric-open (λ s u n. absurd (false≢true s)) e
