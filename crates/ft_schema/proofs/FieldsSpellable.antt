-- The fields that words say can be spelled.
use Rattle.std.proofs.Common.{◌≡◌, ℕ, zero, suc, Bool, true, false, not, ◌&&◌, cond, List, [], ◌∷◌, ◌++◌, length, is_none, Option, Ok, refl, ap, sym, subst, ◌∙◌, append_assoc, append-nil}
use Rattle.std.specs.Prelude.{codes}
use Rattle.std.specs.List.{AllByRecursion}
use Rattle.std.proofs.lemmas.Bool.{true≢false, and_from}
use Rattle.ft_base.specs.Kinds.{is_numeric}
use Rattle.ft_base.specs.Names.{is_name}
use Rattle.ft_base.specs.Reading.{◌>>=◌, parts_in, parts_at}
use Rattle.ft_base.proofs.ReadingLaws.{both}
use Rattle.ft_base.specs.declared.definition.Field.{Field}
use Rattle.ft_base.specs.declared.definition.FieldKind.{FieldKind}
use Rattle.ft_base.specs.declared.definition.FieldKind.TheVariants as indexed
use Rattle.ft_schema.specs.declared.field_options.FieldOptions.{FieldOptions}
use Rattle.ft_schema.specs.declared.names.FieldOption.{FieldOption}
use Rattle.ft_schema.specs.Fields.{alias_at, admitted, kind_at, kind_admitted, is_past_options, field_options_at, kind_by, field_by, field_at, next_field_at, is_at_end, fields_at}
use Rattle.ft_schema.specs.Names.{Word, field_option_of}
use Rattle.ft_schema.specs.Reading.{Read}
use Rattle.ft_schema.specs.Spellable.{ends_with_sortable, can_follow, can_go_on, AreApart, IsUnfSortable, AreSpellable}
use Rattle.ft_schema.proofs.FieldOptionsSpellable.{OptionsSay, field_options-say}
use Rattle.ft_schema.proofs.FieldsAgain.{can_stand}
use Rattle.ft_schema.proofs.LawfulLaws.{is_ok_of, fields-lawful}

-- its options leave a kind what it is
option-kind_by : (kind : FieldKind) (options : FieldOptions) (word : Word)
    → field_option_of (kind_by kind options) word ≡ field_option_of kind word
unfolding field_option_of
option-kind_by indexed.Text options word = refl
option-kind_by (indexed.Tag separator case) options word = refl
option-kind_by indexed.Numeric options word = refl

is_numeric-kind_by : (kind : FieldKind) (options : FieldOptions) → is_numeric (kind_by kind options) ≡ is_numeric kind
is_numeric-kind_by indexed.Text options = refl
is_numeric-kind_by (indexed.Tag separator case) options = refl
is_numeric-kind_by indexed.Numeric options = refl

not_last : (numeric sortable unf noindex taken : Bool)
    → (numeric ≡ true → sortable ≡ true → unf ≡ false → noindex ≡ false → taken ≡ false)
    → not ((numeric && (sortable && (not unf && not noindex))) && taken) ≡ true
not_last false sortable unf noindex taken plain = refl
not_last true false unf noindex taken plain = refl
not_last true true true noindex taken plain = refl
not_last true true false true taken plain = refl
not_last true true false false false plain = refl
not_last true true false false true plain = absurd (true≢false (plain refl refl refl refl))

-- what follows a field that was read may stand there
stood : (name alias : Word) (kind : FieldKind) (options : FieldOptions) (rest : List Word)
    → OptionsSay kind (options, rest) → can_stand (field_by name alias kind options) rest ≡ true
unfolding is_past_options
stood name alias kind options [] say = refl
stood name alias kind options (word ∷ words) say =
    let field : Field = field_by name alias kind options in
    let none : is_none (field_option_of (kind_by kind options) word) ≡ true =
    ap (λ (named : Option FieldOption). is_none named) (option-kind_by kind options word) ∙ say.past
    in
    let plain : not (ends_with_sortable field && is_name word (codes "UNF")) ≡ true =
    not_last (is_numeric (kind_by kind options)) options.sortable options.unf options.no_index (is_name word (codes "UNF"))
    (λ numeric. say.plain (sym (is_numeric-kind_by kind options) ∙ numeric))
    in
    and_from (is_none (field_option_of (kind_by kind options) word))
    (not (ends_with_sortable field && is_name word (codes "UNF"))) none plain

-- whether words begin with this name
abbrev BeginsWith : Word → List Word → Type 0
BeginsWith name [] = ⊥
BeginsWith name (word ∷ words) = name ≡ word

-- what is read of a field
record FieldSays (words : List Word) (read : Field × List Word) : Type 0 where
  named : BeginsWith read.0.name words
  unf : IsUnfSortable read.0
  stands : can_stand read.0 read.1 ≡ true

field-says : (before : List Field) (words : List Word) (read : Field × List Word) → field_at before words ≡ Ok read
    → FieldSays words read
unfolding field_at
field-says before [] read e = absurd (cc)
field-says before (name ∷ words) read e =
    let a = both (admitted before (name ∷ words) (alias_at name words)) _ _ e in
    let k = both (kind_admitted before (name ∷ words) (kind_at a.read.1)) _ _ a.next_is in
    let o = both (field_options_at k.read.0 k.read.1) _ _ k.next_is in
    let same : (field_by name a.read.0 k.read.0 o.read.0, o.read.1) ≡ read = is_ok_of o.next_is in
    let say = field_options-say k.read.0 k.read.1 o.read o.first_is in
    of_parts a.read.0 k.read.0 o.read.0 o.read.1 say same
  where
    of_parts : (alias : Word) (kind : FieldKind) (options : FieldOptions) (rest : List Word)
        → OptionsSay kind (options, rest) → (field_by name alias kind options, rest) ≡ read
        → FieldSays (name ∷ words) read
    of_parts alias kind options rest say same =
        let says : FieldSays (name ∷ words) (field_by name alias kind options, rest) =
        record { named = refl; unf = say.unf; stands = stood name alias kind options rest say }
        in
        subst (λ (r : Field × List Word). FieldSays (name ∷ words) r) same says

-- fields are named as words begin
abbrev AreNamed : List Field → List Word → Type 0
AreNamed [] words = Unit {0}
AreNamed (field ∷ fields) words = BeginsWith field.name words

-- these fields are added to those before
record Adds (before : List Field) (words : List Word) (all : List Field) : Type 0 where
  more : List Field
  same : all ≡ before ++ more
  unf : AllByRecursion IsUnfSortable more
  apart : AreApart more
  named : AreNamed more words

adds_none : (before : List Field) (words : List Word) (all : List Field) → before ≡ all → Adds before words all
adds_none before words all same = record {
  more = [];
  same = sym same ∙ sym (append-nil before);
  unf = tt;
  apart = tt;
  named = tt;
}

-- what follows a field that was read is told apart from it
goes_on_as : (field : Field) (fields : List Field) (rest : List Word) → can_stand field rest ≡ true
    → AreNamed fields rest → can_go_on field fields ≡ true
goes_on_as field [] rest stands named = refl
goes_on_as field (next ∷ fields) [] stands named = absurd named
goes_on_as field (next ∷ fields) (word ∷ words) stands named = ap (can_follow field) named ∙ stands

adds_one : (before : List Field) (field : Field) (words rest : List Word) (all : List Field)
    → FieldSays words (field, rest) → Adds (before ++ field ∷ []) rest all → Adds before words all
adds_one before field words rest all says adds = record {
  more = field ∷ adds.more;
  same = adds.same ∙ append_assoc before (field ∷ []) adds.more;
  unf = (says.unf, adds.unf);
  apart = (goes_on_as field adds.more rest says.stands adds.named, adds.apart);
  named = says.named;
}

next-adds : (before : List Field) (words : List Word) (read : List Field × List Word) (all : List Field)
    → next_field_at before words ≡ Ok read → Adds read.0 read.1 all → Adds before words all
next-adds before words read all e adds =
    let f = both (field_at before words) _ _ e in
    let same : (before ++ f.read.0 ∷ [], f.read.1) ≡ read = is_ok_of f.next_is in
    adds_one before f.read.0 words f.read.1 all (field-says before words f.read f.first_is)
    (subst (λ (r : List Field × List Word). Adds r.0 r.1 all) (sym same) adds)

steps-add : (n : ℕ) (before : List Field) (words : List Word) (read : List Field × List Word)
    → parts_in is_at_end next_field_at n before words ≡ Ok read → Adds before words read.0
steps-add zero before words read e = adds_none before words read.0 (ap (λ (r : List Field × List Word). r.0) (is_ok_of e))
steps-add (suc n) before words read e = by_end (λ after rest. steps-add n after rest read) (is_at_end words) e
  where
    by_end : ((after : List Field) (rest : List Word) → parts_in is_at_end next_field_at n after rest ≡ Ok read
        → Adds after rest read.0)
        → (end : Bool)
        → cond {A = Read (List Field)} end (Ok (before, words))
        (next_field_at before words >>= λ x. parts_in is_at_end next_field_at n x.0 x.1)
        ≡ Ok read
        → Adds before words read.0
    by_end others true e = adds_none before words read.0 (ap (λ (r : List Field × List Word). r.0) (is_ok_of e))
    by_end others false e =
        let x = both (next_field_at before words) _ _ e in
        next-adds before words x.read read.0 x.first_is (others x.read.0 x.read.1 x.next_is)

-- the fields that are read can be spelled
pub fields-spellable : (words : List Word) (read : List Field × List Word) → fields_at words ≡ Ok read
    → AreSpellable read.0
unfolding fields_at parts_at
fields-spellable [] read e = absurd (cc)
fields-spellable (word ∷ words) read e =
    let adds = steps-add (suc (length (word ∷ words))) [] (word ∷ words) read e in
    record {
      lawful = fields-lawful (word ∷ words) read e;
      unf = subst (AllByRecursion IsUnfSortable) (sym adds.same) adds.unf;
      apart = subst AreApart (sym adds.same) adds.apart;
    }
