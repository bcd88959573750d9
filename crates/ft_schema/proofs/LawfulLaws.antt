-- The fields that are read keep the limits, and no two have one alias.
use Rattle.std.proofs.Common.{◌≡◌, ℕ, zero, suc, ◌+◌, ◌<◌, ◌≤◌, Bool, true, false, ◌&&◌, ◌||◌, cond, List, [], ◌∷◌, ◌++◌, length, Option, Some, None, Result, Ok, Err, refl, ap, sym, subst, ◌∙◌, arith, length-append}
use Rattle.std.specs.Prelude.{nat_le, nat_lt, codes}
use Rattle.std.proofs.lemmas.List.Sums.{sum_by-append}
use Rattle.std.specs.List.{IsDistinct, AllByRecursion}
use Rattle.std.specs.Str.{bytes_eq}
use Rattle.std.proofs.lemmas.Bool.{or_parts}
use Rattle.std.proofs.lemmas.Bool.Decides.{nat_tests}
use Rattle.std.specs.Cmp.Lexicographic.{nat_list_eq_equiv}
use Rattle.ft_base.specs.declared.definition.Field.{Field}
use Rattle.ft_base.specs.declared.definition.FieldKind.{FieldKind}
use Rattle.ft_base.specs.declared.definition.FieldKind.TheVariants as indexed
use Rattle.ft_base.specs.declared.definition.IndexDef.{IndexDef}
use Rattle.ft_base.specs.Reading.{◌>>=◌, parts_in, parts_at}
use Rattle.ft_base.proofs.ReadingLaws.{both}
use Rattle.ft_schema.specs.declared.fault.Cause.TheVariants.{BadOption, DuplicateField, TooManyFields}
use Rattle.ft_schema.specs.declared.fault.SchemaFault.{SchemaFault}
use Rattle.ft_schema.specs.declared.fault.SchemaFault.TheVariants as answers
use Rattle.ft_schema.specs.Limits.{most_fields, most_texts}
use Rattle.ft_schema.specs.declared.field_options.FieldOptions.{FieldOptions}
use Rattle.ft_schema.specs.FieldAliases.{field_aliases}
use Rattle.ft_schema.specs.Names.{Word}
use Rattle.ft_schema.specs.Reading.{Read, fault}
use Rattle.ft_schema.specs.Fields.{text_count, has_alias, alias_at, admitted, kind_at, kind_admitted, field_options_at, kind_by, field_by, field_at, next_field_at, is_at_end, fields_at}
use Rattle.ft_base.specs.Kinds.{is_text}
use Rattle.ft_schema.specs.Lawful.{IsLawful}
use Rattle.ft_schema.specs.Options.{options_at}
use Rattle.ft_schema.specs.Schema.{index_by, index_at, keyword_at, added_at, has_any_alias, is_over, extended}
use Rattle.ft_schema.proofs.AliasLemmas.{text_count-push}

is_answer : {A E : Type 0} (x y : A) (r : Result A E) → r ≡ Ok x → r ≡ Ok y → x ≡ y
is_answer x y r e f = cc

pub is_ok_of : {A E : Type 0} {x y : A} → ◌≡◌ {A = Result A E} (Ok x) (Ok y) → x ≡ y
is_ok_of {x = x} {y = y} e = is_answer x y (Ok x) refl e

-- a sum that is not above the most is within it
within : {sum n most : ℕ} → sum ≡ n → nat_lt most n ≡ false → sum ≤ most
within e test = grind (arith, nat_tests)

-- an alias under which a field may go behind others
pub record Admits (before : List Field) (alias : Word) : Type 0 where
  pub new : has_alias before alias ≡ false
  pub few : length before < most_fields

admitted-Ok : (before : List Field) (from : List Word) (found : Option (Word × List Word)) (alias : Word × List Word) → admitted before from found ≡ Ok alias → Admits before alias.0
admitted-Ok before from None alias e = by_room (nat_le most_fields (length before)) e
  where
    by_room : (full : Bool) → cond {A = Read Word} full (fault TooManyFields from) (fault BadOption []) ≡ Ok alias → Admits before alias.0
    by_room true e = absurd (cc)
    by_room false e = absurd (cc)
admitted-Ok before from (Some found) alias e = by_tests (has_alias before found.0) refl (nat_le most_fields (length before)) refl e
  where
    by_tests : (known : Bool) → has_alias before found.0 ≡ known → (full : Bool) → nat_le most_fields (length before) ≡ full
        → cond {A = Read Word} known (fault DuplicateField from) (cond full (fault TooManyFields from) (Ok found)) ≡ Ok alias → Admits before alias.0
    by_tests true k full f e = absurd (cc)
    by_tests false k true f e = absurd (cc)
    by_tests false k false f e =
        let same : found ≡ alias = cc in
        record { new = ap (λ (a : Word × List Word). has_alias before a.0) (sym same) ∙ k; few = grind (arith, nat_tests) }

kind_admitted-Ok : (before : List Field) (from : List Word) (found : Read FieldKind) (kind : FieldKind × List Word) → kind_admitted before from found ≡ Ok kind
    → (is_text kind.0 && nat_le most_texts (text_count before)) ≡ false
kind_admitted-Ok before from (Err stop) kind e = absurd (cc)
kind_admitted-Ok before from (Ok found) kind e = by_test (is_text found.0 && nat_le most_texts (text_count before)) refl e
  where
    by_test : (full : Bool) → (is_text found.0 && nat_le most_texts (text_count before)) ≡ full → cond {A = Read FieldKind} full (fault TooManyFields from) (Ok found) ≡ Ok kind
        → (is_text kind.0 && nat_le most_texts (text_count before)) ≡ false
    by_test true t e = absurd (cc)
    by_test false t e =
        let same : found ≡ kind = cc in
        ap (λ (k : FieldKind × List Word). is_text k.0 && nat_le most_texts (text_count before)) (sym same) ∙ t

is_text-kind_by : (kind : FieldKind) (options : FieldOptions) → is_text (kind_by kind options) ≡ is_text kind
is_text-kind_by indexed.Text options = refl
is_text-kind_by (indexed.Tag separator case) options = refl
is_text-kind_by indexed.Numeric options = refl

-- a field that may go behind others
pub record Follows (before : List Field) (field : Field) : Type 0 where
  pub admits : Admits before field.alias
  pub texts : (is_text field.kind && nat_le most_texts (text_count before)) ≡ false

of_parts : (before : List Field) (name alias : Word) (kind : FieldKind) (options : FieldOptions) (rest : List Word) (read : Field × List Word) → Admits before alias
    → (is_text kind && nat_le most_texts (text_count before)) ≡ false → (field_by name alias kind options, rest) ≡ read → Follows before read.0
of_parts before name alias kind options rest read admits texts same =
    subst (λ (r : Field × List Word). Follows before r.0) same (record {
      admits = admits;
      texts = ap (λ b. b && nat_le most_texts (text_count before)) (is_text-kind_by kind options) ∙ texts;
    })

-- a field that is read may go behind those before it
field_at-Ok : (before : List Field) (words : List Word) (read : Field × List Word) → field_at before words ≡ Ok read → Follows before read.0
unfolding field_at
field_at-Ok before [] read e = absurd (cc)
field_at-Ok before (name ∷ words) read e =
    let a = both (admitted before (name ∷ words) (alias_at name words)) _ _ e in
    let k = both (kind_admitted before (name ∷ words) (kind_at a.read.1)) _ _ a.next_is in
    let o = both (field_options_at k.read.0 k.read.1) _ _ k.next_is in
    let same : (field_by name a.read.0 k.read.0 o.read.0, o.read.1) ≡ read = is_ok_of o.next_is in
    of_parts before name a.read.0 k.read.0 o.read.0 o.read.1 read
    (admitted-Ok before (name ∷ words) (alias_at name words) a.read a.first_is)
    (kind_admitted-Ok before (name ∷ words) (kind_at a.read.1) k.read k.first_is)
    same

all_append : (P : Word → Type 0) (xs ys : List Word) → AllByRecursion P xs → AllByRecursion P ys → AllByRecursion P (xs ++ ys)
all_append P [] ys h k = k
all_append P (x ∷ xs) ys h k = (h.0, all_append P xs ys h.1 k)

-- where no new field has an alias of the old, none has that of the first, and none one of the others
none_of : (f : Field) (fs new : List Field) → has_any_alias (f ∷ fs) new ≡ false → AllByRecursion (λ alias. bytes_eq f.alias alias ≡ false) (field_aliases new) × (has_any_alias fs new ≡ false)
none_of f fs [] e = (tt, refl)
none_of f fs (g ∷ gs) e =
    let here = or_parts (has_alias (f ∷ fs) g.alias) (has_any_alias (f ∷ fs) gs) e in
    let both_of = or_parts (bytes_eq g.alias f.alias) (has_alias fs g.alias) here.0 in
    let others = none_of f fs gs here.1 in
    ((nat_list_eq_equiv.symm f.alias g.alias ∙ both_of.0, others.0), ap (λ b. b || has_any_alias fs gs) both_of.1 ∙ others.1)

field_aliases-append : (old new : List Field) → field_aliases (old ++ new) ≡ field_aliases old ++ field_aliases new
field_aliases-append [] new = refl
field_aliases-append (f ∷ fs) new = ap (λ others. f.alias ∷ others) (field_aliases-append fs new)

distinct-append : (old new : List Field) → IsDistinct bytes_eq (field_aliases old) → IsDistinct bytes_eq (field_aliases new) → has_any_alias old new ≡ false → IsDistinct bytes_eq (field_aliases (old ++ new))
unfolding IsDistinct
distinct-append [] new h k e = k
distinct-append (f ∷ fs) new h k e =
    let none = none_of f fs new e in
    (rw (field_aliases-append fs new) (all_append (λ alias. bytes_eq f.alias alias ≡ false) (field_aliases fs) (field_aliases new) h.0 none.0), distinct-append fs new h.1 k none.1)

-- fields with one more that may go behind them
next-lawful : (before : List Field) (field : Field) → text_count before ≤ most_texts → IsDistinct bytes_eq (field_aliases before) → Follows before field → IsLawful (before ++ field ∷ [])
unfolding IsDistinct
next-lawful before field texts distinct follows = record {
  some = omega (arith, length-append before (field ∷ []));
  number = omega (arith, length-append before (field ∷ []), follows.admits.few);
  texts = rw (text_count-push before field) (by_kind (is_text field.kind) follows.texts);
  distinct = distinct-append before (field ∷ []) distinct (tt, tt) (ap (λ b. b || false) follows.admits.new);
}
  where
    by_kind : (text : Bool) → (text && nat_le most_texts (text_count before)) ≡ false → text_count before + cond text 1 0 ≤ most_texts
    by_kind true t = grind (arith, nat_tests)
    by_kind false t = omega arith

next-Ok : (before : List Field) (words : List Word) (read : List Field × List Word) → text_count before ≤ most_texts → IsDistinct bytes_eq (field_aliases before)
    → next_field_at before words ≡ Ok read → IsLawful read.0
next-Ok before words read texts distinct e =
    let f = both (field_at before words) _ _ e in
    let same : (before ++ f.read.0 ∷ [], f.read.1) ≡ read = is_ok_of f.next_is in
    subst (λ (r : List Field × List Word). IsLawful r.0) same (next-lawful before f.read.0 texts distinct (field_at-Ok before words f.read f.first_is))

one_step : (before : List Field) (words : List Word) (read : List Field × List Word) → IsLawful before → (others : List Field → List Word → Read (List Field))
    → ((after : List Field) (rest : List Word) → IsLawful after → others after rest ≡ Ok read → IsLawful read.0)
    → (ends : Bool) → cond {A = Read (List Field)} ends (Ok (before, words)) (next_field_at before words >>= λ x. others x.0 x.1) ≡ Ok read → IsLawful read.0
one_step before words read lawful others goes_on true e = subst (λ (r : List Field × List Word). IsLawful r.0) (is_ok_of e) lawful
one_step before words read lawful others goes_on false e =
    let x = both (next_field_at before words) _ _ e in
    goes_on x.read.0 x.read.1 (next-Ok before words x.read lawful.texts lawful.distinct x.first_is) x.next_is

steps-Ok : (n : ℕ) (before : List Field) (words : List Word) (read : List Field × List Word) → IsLawful before → parts_in is_at_end next_field_at n before words ≡ Ok read → IsLawful read.0
steps-Ok zero before words read lawful e = subst (λ (r : List Field × List Word). IsLawful r.0) (is_ok_of e) lawful
steps-Ok (suc n) before words read lawful e =
    one_step before words read lawful (λ after rest. parts_in is_at_end next_field_at n after rest) (λ after rest. steps-Ok n after rest read) (is_at_end words) e

pub fields-lawful : (words : List Word) (read : List Field × List Word) → fields_at words ≡ Ok read → IsLawful read.0
unfolding fields_at parts_at IsDistinct
fields-lawful [] read e = absurd (cc)
fields-lawful (word ∷ words) read e =
    let x = both (next_field_at [] (word ∷ words)) _ _ e in
    steps-Ok (length (word ∷ words)) x.read.0 x.read.1 read (next-Ok [] (word ∷ words) x.read (omega arith) tt x.first_is) x.next_is

-- what FT.CREATE defines is lawful
pub index-lawful : (serial : ℕ) (words : List Word) (index : IndexDef) → index_at serial words ≡ Ok index → IsLawful index.fields
unfolding index_at
index-lawful serial [] index e = absurd (cc)
index-lawful serial (name ∷ words) index e =
    let options = both (options_at words) _ _ e in
    let schema = both (keyword_at (codes "SCHEMA") options.read.1) _ _ options.next_is in
    let fields = both (fields_at schema.read) _ _ schema.next_is in
    let same : index_by name serial options.read.0 fields.read.0 ≡ index = is_ok_of fields.next_is in
    subst (λ (i : IndexDef). IsLawful i.fields) same (fields-lawful schema.read fields.read fields.first_is)

-- what FT.ALTER adds is lawful
pub added-lawful : (words : List Word) (fields : List Field) → added_at words ≡ Ok fields → IsLawful fields
unfolding added_at
added-lawful words fields e =
    let schema = both (keyword_at (codes "SCHEMA") words) _ _ e in
    let add = both (keyword_at (codes "ADD") schema.read) _ _ schema.next_is in
    let read = both (fields_at add.read) _ _ add.next_is in
    subst IsLawful (is_ok_of read.next_is) (fields-lawful add.read read.read read.first_is)

-- an index with more fields is lawful, where both are
pub extended-lawful : (index : IndexDef) (fields : List Field) (answer : IndexDef) → IsLawful index.fields → IsLawful fields → extended index fields ≡ Ok answer → IsLawful answer.fields
unfolding extended
extended-lawful index fields answer old new e = by_tests (has_any_alias index.fields fields) refl (is_over index.fields fields) refl e
  where
    by_tests : (known : Bool) → has_any_alias index.fields fields ≡ known → (over : Bool) → is_over index.fields fields ≡ over
        → cond {A = Result IndexDef SchemaFault} known (Err (answers.DuplicateField 5)) (cond over (Err (answers.TooManyFields 5)) (Ok (record index { fields = index.fields ++ fields }))) ≡ Ok answer → IsLawful answer.fields
    by_tests true k over o e = absurd (cc)
    by_tests false k true o e = absurd (cc)
    by_tests false k false o e =
        let parts = or_parts (nat_lt most_texts (text_count index.fields + text_count fields)) (nat_lt most_fields (length index.fields + length fields)) o in
        subst (λ (i : IndexDef). IsLawful i.fields) (is_ok_of e) (record {
          some = omega (arith, length-append index.fields fields, old.some);
          number = within (length-append index.fields fields) parts.1;
          texts = within (sum_by-append (λ (f : Field). cond (is_text f.kind) 1 0) index.fields fields) parts.0;
          distinct = distinct-append index.fields fields old.distinct new.distinct k;
        })
