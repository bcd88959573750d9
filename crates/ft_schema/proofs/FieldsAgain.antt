-- Fields are read back from the words that spell them.
use Rattle.std.proofs.Common.{◌≡◌, ◌+◌, ◌<◌, ◌≤◌, Bool, true, false, not, ◌&&◌, cond, List, [], ◌∷◌, ◌++◌, length, flat_map, is_none, Option, Some, Ok, refl, ap, sym, subst, ◌∙◌, arith, append_assoc, append-nil, length-append}
use Rattle.std.specs.Prelude.{nat_le, codes}
use Rattle.std.specs.List.{IsDistinct, AllByRecursion}
use Rattle.std.specs.Str.{bytes_eq}
use Rattle.std.specs.Cmp.Lexicographic.{nat_list_eq_equiv}
use Rattle.std.proofs.lemmas.Bool.{true≢false, false≢true, and_parts, not-true, lt-leb, or_from}
use Rattle.std.proofs.lemmas.List.Sums.{sum_by-append, sum_by-cons}
use Rattle.ft_base.specs.Kinds.{is_text, is_numeric}
use Rattle.ft_base.specs.Names.{is_name}
use Rattle.ft_base.specs.declared.definition.Field.{Field}
use Rattle.ft_base.specs.declared.definition.FieldKind.{FieldKind}
use Rattle.ft_base.specs.declared.definition.FieldKind.TheVariants as indexed
use Rattle.ft_base.proofs.PartsLaws.{Reads, begins, goes_on, ended}
use Rattle.ft_schema.specs.declared.fault.Cause.TheVariants.{DuplicateField, TooManyFields}
use Rattle.ft_schema.specs.declared.names.FieldOption.{FieldOption}
use Rattle.ft_schema.specs.FieldAliases.{field_aliases}
use Rattle.ft_schema.specs.Fields.{text_count, has_alias, unless_full, admitted, kind_at, kind_admitted, is_at_unf, is_past_options, field_options_at, field_at, next_field_at, is_at_end, fields_at}
use Rattle.ft_schema.specs.Lawful.{IsLawful}
use Rattle.ft_schema.specs.Limits.{most_fields, most_texts}
use Rattle.ft_schema.specs.Names.{Word, kind_of, field_option_of}
use Rattle.ft_schema.specs.Reading.{Read, fault}
use Rattle.ft_schema.specs.Spellable.{ends_with_sortable, can_follow, can_go_on, AreApart, IsUnfSortable, AreSpellable}
use Rattle.ft_schema.specs.Spelling.{option_words, sortable_words, kind_word, kind_option_words, field_option_words, field_words}
use Rattle.ft_schema.proofs.FieldOptionsAgain.{bare, options_of, kind_again, behind_sortable, options_again}
use Rattle.ft_schema.proofs.LawfulLaws.{Admits, Follows}
use Rattle.ft_schema.proofs.Steps.{read_as, reads_on}

-- whether these words may stand behind a field
abbrev pub can_stand : Field → List Word → Bool
can_stand field [] = true
can_stand field (word ∷ words) = can_follow field word

-- the two parts of that
apart_of : (field : Field) (word : Word) → can_follow field word ≡ true
    → (is_none (field_option_of field.kind word) ≡ true) × (not (ends_with_sortable field && is_name word (codes "UNF")) ≡ true)
apart_of field word stands =
    and_parts (is_none (field_option_of field.kind word)) (not (ends_with_sortable field && is_name word (codes "UNF"))) stands

-- the options of a kind do not hang on its own
bare-option : (kind : FieldKind) (word : Word) → field_option_of (bare kind) word ≡ field_option_of kind word
unfolding field_option_of
bare-option indexed.Text word = refl
bare-option (indexed.Tag separator case) word = refl
bare-option indexed.Numeric word = refl

past : (field : Field) (rest : List Word) → can_stand field rest ≡ true → is_past_options (bare field.kind) rest ≡ true
unfolding is_past_options
past field [] stands = refl
past field (word ∷ words) stands =
    ap (λ (named : Option FieldOption). is_none named) (bare-option field.kind word) ∙ (apart_of field word stands).0

not_taken : (numeric sortable unf noindex taken : Bool) → numeric ≡ true → sortable ≡ true → unf ≡ false → noindex ≡ false
    → not ((numeric && (sortable && (not unf && not noindex))) && taken) ≡ true → taken ≡ false
not_taken true true false false taken k s u n e = not-true taken e
not_taken false sortable unf noindex taken k s u n e = absurd (false≢true k)
not_taken true false unf noindex taken k s u n e = absurd (false≢true s)
not_taken true true true noindex taken k s u n e = absurd (true≢false u)
not_taken true true false true taken k s u n e = absurd (true≢false n)

-- Behind a NUMERIC field that ends with SORTABLE the next word is not UNF.
no_unf : (field : Field) (rest : List Word) → can_stand field rest ≡ true → is_numeric field.kind ≡ true
    → field.sortable ≡ true → field.unf ≡ false → field.noindex ≡ false → is_at_unf rest ≡ false
no_unf field [] stands k s u n = refl
no_unf field (word ∷ words) stands k s u n =
    not_taken (is_numeric field.kind) field.sortable field.unf field.noindex (is_name word (codes "UNF"))
    k s u n (apart_of field word stands).1

-- Behind SORTABLE without UNF the next word is not UNF.
plain : (kind : FieldKind) (noindex : Bool) (rest : List Word)
    → (is_numeric kind ≡ true → noindex ≡ false → is_at_unf rest ≡ false)
    → is_at_unf (behind_sortable kind noindex rest) ≡ false
plain indexed.Text noindex rest none = refl
plain (indexed.Tag separator case) noindex rest none = refl
plain indexed.Numeric true rest none = refl
plain indexed.Numeric false rest none = none refl refl

alias_again : (before : List Field) (from : List Word) (alias : Word × List Word) → Admits before alias.0
    → admitted before from (Some alias) ≡ Ok alias
alias_again before from alias admits =
    ap (λ (known : Bool). cond {A = Read Word} known (fault DuplicateField from) (unless_full before from (Ok alias))) admits.new
    ∙ ap (λ (full : Bool). cond {A = Read Word} full (fault TooManyFields from) (Ok alias))
    (lt-leb most_fields (length before) admits.few)

admitted_again : (before : List Field) (from : List Word) (kind : FieldKind) (words : List Word)
    → (is_text kind && nat_le most_texts (text_count before)) ≡ false
    → kind_admitted before from (kind_at (kind_word kind ∷ words)) ≡ Ok (bare kind, words)
unfolding kind_of kind_at
admitted_again before from indexed.Text words few =
    ap (λ (full : Bool). cond {A = Read FieldKind} full (fault TooManyFields from) (Ok (indexed.Text, words))) few
admitted_again before from (indexed.Tag separator case) words few = refl
admitted_again before from indexed.Numeric words few = refl

-- a field whose options are followed by other words
regrouped : (field : Field) (rest : List Word)
    → field_option_words field ++ rest
    ≡ sortable_words field.sortable field.unf ++ behind_sortable field.kind field.noindex rest
regrouped field rest =
    let last = option_words (codes "NOINDEX") field.noindex in
    append_assoc (sortable_words field.sortable field.unf) (kind_option_words field.kind ++ last) rest
    ∙ ap (λ (words : List Word). sortable_words field.sortable field.unf ++ words)
    (append_assoc (kind_option_words field.kind) last rest)

-- A field that may stand between those before it and the words behind it is read back.
field_again : (before : List Field) (field : Field) (rest : List Word) → Follows before field → IsUnfSortable field
    → can_stand field rest ≡ true → field_at before (field_words field ++ rest) ≡ Ok (field, rest)
unfolding field_at
field_again before field rest follows only stands =
    let options : List Word = field_option_words field ++ rest in
    let from : List Word = field.name ∷ codes "AS" ∷ field.alias ∷ kind_word field.kind ∷ options in
    let given = options_of field.kind field.sortable field.unf field.noindex in
    let read : field_options_at (bare field.kind) options ≡ Ok (given, rest) =
    ap (field_options_at (bare field.kind)) (regrouped field rest)
    ∙ options_again field.kind field.sortable field.unf field.noindex rest only (past field rest stands)
    (λ s u. plain field.kind field.noindex rest (λ k n. no_unf field rest stands k s u n))
    in
    let alias : Word × List Word = (field.alias, kind_word field.kind ∷ options) in
    reads_on (admitted before from (Some alias)) _ alias _ (alias_again before from alias follows.admits)
    (reads_on (kind_admitted before from (kind_at (kind_word field.kind ∷ options))) _ (bare field.kind, options) _
    (admitted_again before from field.kind options follows.texts)
    (reads_on (field_options_at (bare field.kind) options) _ (given, rest) _ read
    (ap (λ (kind : FieldKind). read_as (record field { kind = kind }) rest)
    (kind_again field.kind field.sortable field.unf field.noindex))))

next_again : (before : List Field) (field : Field) (rest : List Word) → Follows before field → IsUnfSortable field
    → can_stand field rest ≡ true → next_field_at before (field_words field ++ rest) ≡ Ok (before ++ field ∷ [], rest)
next_again before field rest follows only stands =
    reads_on (field_at before (field_words field ++ rest)) _ (field, rest) _
    (field_again before field rest follows only stands) refl

-- what holds of all aliases holds of this one
of_alias : (P : Word → Type 0) (before : List Field) (field : Field) (fields : List Field)
    → AllByRecursion P (field_aliases (before ++ field ∷ fields)) → P field.alias
of_alias P [] field fields all = all.0
of_alias P (f ∷ before) field fields all = of_alias P before field fields all.1

-- among fields of distinct aliases none before another has its alias
is_new : (before : List Field) (field : Field) (fields : List Field)
    → IsDistinct bytes_eq (field_aliases (before ++ field ∷ fields)) → has_alias before field.alias ≡ false
unfolding IsDistinct
is_new [] field fields distinct = refl
is_new (f ∷ before) field fields distinct =
    or_from (bytes_eq field.alias f.alias) (has_alias before field.alias)
    (nat_list_eq_equiv.symm field.alias f.alias
    ∙ of_alias (λ alias. bytes_eq f.alias alias ≡ false) before field fields distinct.0)
    (is_new before field fields distinct.1)

-- the TEXT fields are those before a field, itself, and those behind it
text_count-split : (before : List Field) (field : Field) (fields : List Field)
    → text_count (before ++ field ∷ fields) ≡ text_count before + (cond (is_text field.kind) 1 0 + text_count fields)
text_count-split before field fields =
    sum_by-append (λ (f : Field). cond (is_text f.kind) 1 0) before (field ∷ fields)
    ∙ ap (λ n. text_count before + n) (sum_by-cons (λ (f : Field). cond (is_text f.kind) 1 0) field fields)

-- among lawful fields each may go behind those before it
follows_of : (before : List Field) (field : Field) (fields : List Field) → IsLawful (before ++ field ∷ fields)
    → Follows before field
follows_of before field fields lawful = record {
  admits = record {
    new = is_new before field fields lawful.distinct;
    few = omega (arith, length-append before (field ∷ fields), lawful.number);
  };
  texts = by_kind (is_text field.kind) (omega (arith, text_count-split before field fields, lawful.texts));
}
  where
    by_kind : (text : Bool) → text_count before + (cond text 1 0 + text_count fields) ≤ most_texts
        → (text && nat_le most_texts (text_count before)) ≡ false
    by_kind true few = lt-leb most_texts (text_count before) (omega (arith, few))
    by_kind false few = refl

-- the words of fields behind one may stand there, where the fields may
stands_on : (field : Field) (fields : List Field) → can_go_on field fields ≡ true
    → can_stand field (flat_map field_words fields) ≡ true
stands_on field [] on = refl
stands_on field (next ∷ fields) on = on

fields_step : (fields before : List Field) (whole : Read (List Field)) → IsLawful (before ++ fields)
    → AllByRecursion IsUnfSortable fields → AreApart fields
    → Reads is_at_end next_field_at before (flat_map field_words fields) whole → whole ≡ Ok (before ++ fields, [])
fields_step [] before whole lawful only apart reads =
    ended is_at_end next_field_at before [] whole refl reads
    ∙ ap (λ (all : List Field). read_as all []) (sym (append-nil before))
fields_step (field ∷ fields) before whole lawful only apart reads =
    let rest = flat_map field_words fields in
    let together : (before ++ field ∷ []) ++ fields ≡ before ++ field ∷ fields = append_assoc before (field ∷ []) fields in
    let read = next_again before field rest (follows_of before field fields lawful) only.0 (stands_on field fields apart.0) in
    let less : length rest < length (field_words field ++ rest) = omega (arith, length-append (field_option_words field) rest) in
    fields_step fields (before ++ field ∷ []) whole (subst IsLawful (sym together) lawful) only.1 apart.1
    (goes_on is_at_end next_field_at before (before ++ field ∷ []) (field_words field ++ rest) rest whole refl read less reads)
    ∙ ap (λ (all : List Field). read_as all []) together

-- what can be spelled is read back
pub fields_again : (fields : List Field) → AreSpellable fields → fields_at (flat_map field_words fields) ≡ Ok (fields, [])
unfolding fields_at
fields_again [] can = absurd (omega (arith, can.lawful.some))
fields_again (field ∷ fields) can =
    fields_step (field ∷ fields) [] _ can.lawful can.unf can.apart
    (begins is_at_end next_field_at [] (flat_map field_words (field ∷ fields)))
