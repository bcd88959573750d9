-- The options of a field are read back from the words that spell them.
use Rattle.std.proofs.Common.{◌≡◌, ℕ, Bool, true, false, cond, List, [], ◌∷◌, ◌++◌, ◌<◌, length, drop, Option, Some, None, Ok, refl, ap, arith}
use Rattle.std.specs.Prelude.{codes}
use Rattle.std.proofs.lemmas.Bool.{false≢true}
use Rattle.ft_base.specs.Kinds.{is_text}
use Rattle.ft_base.specs.declared.definition.FieldKind.{FieldKind}
use Rattle.ft_base.specs.declared.definition.FieldKind.TheVariants as indexed
use Rattle.ft_base.proofs.PartsLaws.{Reads, begins, goes_on, ended}
use Rattle.ft_schema.specs.declared.field_options.FieldOptions.{FieldOptions}
use Rattle.ft_schema.specs.Fields.{no_field_options, is_at_unf, field_option_at, field_option_with, is_past_options, field_options_at, kind_by}
use Rattle.ft_schema.specs.Names.{Word, field_option_of}
use Rattle.ft_schema.specs.Reading.{Read}
use Rattle.ft_schema.specs.Spelling.{option_words, sortable_words, kind_option_words}

-- a kind as its word alone gives it
abbrev pub bare : FieldKind → FieldKind
bare indexed.Text = indexed.Text
bare (indexed.Tag separator case) = indexed.Tag 44 false
bare indexed.Numeric = indexed.Numeric

abbrev separator_of : FieldKind → Option ℕ
separator_of indexed.Text = None
separator_of (indexed.Tag separator case) = Some separator
separator_of indexed.Numeric = None

abbrev case_of : FieldKind → Bool
case_of indexed.Text = false
case_of (indexed.Tag separator case) = case
case_of indexed.Numeric = false

-- the options as they are read
abbrev pub options_of : FieldKind → Bool → Bool → Bool → FieldOptions
options_of kind sortable unf noindex = record {
  no_stem = is_text kind;
  weight = false;
  separator = separator_of kind;
  case_sensitive = case_of kind;
  sortable = sortable;
  unf = unf;
  no_index = noindex;
}

-- they make the kind
pub kind_again : (kind : FieldKind) (sortable unf noindex : Bool)
    → kind_by (bare kind) (options_of kind sortable unf noindex) ≡ kind
kind_again indexed.Text sortable unf noindex = refl
kind_again (indexed.Tag separator case) sortable unf noindex = refl
kind_again indexed.Numeric sortable unf noindex = refl

abbrev sorting : Bool → Bool → FieldOptions
sorting sortable unf = record no_field_options { sortable = sortable; unf = unf }

-- what is read from here is the whole
abbrev From : FieldKind → FieldOptions → List Word → Read FieldOptions → Type 0
From kind given words whole = Reads (is_past_options kind) (field_option_at kind) given words whole

abbrev answer : FieldOptions × List Word → Read FieldOptions
answer read = Ok read

-- an option is read, and reading goes on behind it
takes : (kind : FieldKind) (given after : FieldOptions) (words rest : List Word) (whole : Read FieldOptions)
    → is_past_options kind words ≡ false → field_option_at kind given words ≡ Ok (after, rest) → length rest < length words
    → From kind given words whole → From kind after rest whole
takes kind given after words rest whole more read shorter reads =
    goes_on (is_past_options kind) (field_option_at kind) given after words rest whole more read shorter reads

sortable_step : (kind : FieldKind) (sortable unf : Bool) (more : List Word) (whole : Read FieldOptions)
    → (unf ≡ true → sortable ≡ true) → (sortable ≡ true → unf ≡ false → is_at_unf more ≡ false)
    → From kind no_field_options (sortable_words sortable unf ++ more) whole
    → From kind (sorting sortable unf) more whole
unfolding field_option_of is_past_options field_option_at field_option_with
sortable_step kind false false more whole only plain reads = reads
sortable_step kind false true more whole only plain reads = absurd (false≢true (only refl))
sortable_step kind true true more whole only plain reads =
    takes kind no_field_options (sorting true true) (codes "SORTABLE" ∷ codes "UNF" ∷ more) more whole
    refl refl (omega arith) reads
sortable_step kind true false more whole only plain reads =
    let read : field_option_at kind no_field_options (codes "SORTABLE" ∷ more) ≡ Ok (sorting true false, more) =
    ap (λ (unf : Bool). answer (cond unf (sorting true true, drop 1 more) (sorting true false, more))) (plain refl refl)
    in
    takes kind no_field_options (sorting true false) (codes "SORTABLE" ∷ more) more whole refl read (omega arith) reads

case_step : (separator : ℕ) (case sortable unf : Bool) (more : List Word) (whole : Read FieldOptions)
    → From (indexed.Tag 44 false) (options_of (indexed.Tag separator false) sortable unf false)
    (option_words (codes "CASESENSITIVE") case ++ more) whole
    → From (indexed.Tag 44 false) (options_of (indexed.Tag separator case) sortable unf false) more whole
unfolding field_option_of is_past_options field_option_at field_option_with
case_step separator false sortable unf more whole reads = reads
case_step separator true sortable unf more whole reads =
    takes (indexed.Tag 44 false) (options_of (indexed.Tag separator false) sortable unf false)
    (options_of (indexed.Tag separator true) sortable unf false) (codes "CASESENSITIVE" ∷ more) more whole
    refl refl (omega arith) reads

kind_step : (kind : FieldKind) (sortable unf : Bool) (more : List Word) (whole : Read FieldOptions)
    → From (bare kind) (sorting sortable unf) (kind_option_words kind ++ more) whole
    → From (bare kind) (options_of kind sortable unf false) more whole
unfolding field_option_of is_past_options field_option_at field_option_with
kind_step indexed.Text sortable unf more whole reads =
    takes indexed.Text (sorting sortable unf) (options_of indexed.Text sortable unf false) (codes "NOSTEM" ∷ more) more whole
    refl refl (omega arith) reads
kind_step (indexed.Tag separator case) sortable unf more whole reads =
    let behind = option_words (codes "CASESENSITIVE") case ++ more in
    case_step separator case sortable unf more whole
    (takes (indexed.Tag 44 false) (sorting sortable unf) (options_of (indexed.Tag separator false) sortable unf false)
    (codes "SEPARATOR" ∷ (separator ∷ []) ∷ behind) behind whole refl refl (omega arith) reads)
kind_step indexed.Numeric sortable unf more whole reads = reads

noindex_step : (kind : FieldKind) (sortable unf noindex : Bool) (more : List Word) (whole : Read FieldOptions)
    → From (bare kind) (options_of kind sortable unf false) (option_words (codes "NOINDEX") noindex ++ more) whole
    → From (bare kind) (options_of kind sortable unf noindex) more whole
unfolding field_option_of is_past_options field_option_at field_option_with
noindex_step kind sortable unf false more whole reads = reads
noindex_step kind sortable unf true more whole reads =
    takes (bare kind) (options_of kind sortable unf false) (options_of kind sortable unf true) (codes "NOINDEX" ∷ more) more whole
    refl refl (omega arith) reads

-- the words behind SORTABLE and UNF
abbrev pub behind_sortable : FieldKind → Bool → List Word → List Word
behind_sortable kind noindex rest = kind_option_words kind ++ (option_words (codes "NOINDEX") noindex ++ rest)

-- All options are read back, where the words behind them are no option, and UNF is not taken for one of SORTABLE.
pub options_again : (kind : FieldKind) (sortable unf noindex : Bool) (rest : List Word)
    → (unf ≡ true → sortable ≡ true) → is_past_options (bare kind) rest ≡ true
    → (sortable ≡ true → unf ≡ false → is_at_unf (behind_sortable kind noindex rest) ≡ false)
    → field_options_at (bare kind) (sortable_words sortable unf ++ behind_sortable kind noindex rest)
    ≡ Ok (options_of kind sortable unf noindex, rest)
unfolding field_options_at
options_again kind sortable unf noindex rest only past plain =
    let ends = is_past_options (bare kind) in
    let part = field_option_at (bare kind) in
    let last = option_words (codes "NOINDEX") noindex ++ rest in
    let behind = behind_sortable kind noindex rest in
    let all = begins ends part no_field_options (sortable_words sortable unf ++ behind) in
    let sorted = sortable_step (bare kind) sortable unf behind _ only plain all in
    let kinded = kind_step kind sortable unf last _ sorted in
    ended ends part (options_of kind sortable unf noindex) rest _ past (noindex_step kind sortable unf noindex rest _ kinded)
