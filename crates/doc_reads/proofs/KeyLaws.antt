-- The key of a shape sorts by the field that the search names: where it has a column, the numbers there are what it sees.
use Rattle.std.proofs.Common.{◌≡◌, ℕ, suc, Bool, true, false, List, [], ◌∷◌, map, filter, min, Option, None, Some, is_some, refl, sym, ap, ◌∙◌, inl, inr, arith}
use Rattle.std.specs.Prelude.{◌-◌, ◌==◌, ℤ, IfSome, not, option_map, option_and_then, if◌then◌else◌}
use Rattle.std.specs.List.{find}
use Rattle.std.specs.Str.{bytes_eq}
use Rattle.std.proofs.lemmas.Bool.{and_parts, cases_Bool, eqb-true}
use Rattle.cmd_parse.specs.Options.{Sort}
use Rattle.cmd_parse.specs.Searching.{Searching}
use Rattle.ft_base.specs.Hash.{get_field}
use Rattle.ft_base.specs.Kinds.{is_numeric}
use Rattle.ft_base.specs.declared.definition.Field.{Field}
use Rattle.ft_base.specs.declared.definition.FieldKind.{FieldKind}
use Rattle.ft_base.specs.declared.definition.FieldKind.TheVariants as kinds
use Rattle.ft_base.specs.declared.definition.IndexDef.{IndexDef}
use Rattle.ft_base.specs.Docs.{Doc}
use Rattle.ft_machine.specs.Counted.{num_or_null}
use Rattle.ft_meaning.specs.Holds.{field_number, value_number}
use Rattle.ft_meaning.specs.Sortable.{keeps_number, number_at}
use Rattle.doc_reads.specs.Ids.{AreNumbered}
use Rattle.doc_reads.specs.Pages.{reads_to_sort, sort_field}
use Rattle.doc_reads.specs.Shapes.{AreSeen, IsShapeOf, column_for, column_named, key_for, key_of_field, key_seen, value_seen}
use Rattle.doc_reads.specs.declared.shape.Shape.{Shape}
use Rattle.doc_reads.specs.declared.shape.SortKey.{SortKey}

-- ---- the column of a field's numbers

-- the field with an alias
abbrev found : List ℕ → List Field → Option Field
found alias fields = find (λ (field : Field). bytes_eq alias field.alias) fields

-- the column one further on, where the first field is kept
abbrev further : Bool → ℕ → ℕ
further kept column = if kept then suc column else column

-- A field whose numbers are kept has a column.
pub kept-column : (alias : List ℕ) (fields : List Field) (field : Field) → found alias fields ≡ Some field → is_some (column_named alias fields) ≡ keeps_number field
kept-column alias [] field is = absurd cc
kept-column alias (first ∷ fields) field is =
    elim (cases_Bool (bytes_eq alias first.alias)) [
      | inl here ↦
          let said : ◌≡◌ {A = Option Field} (Some first) (Some field) = rw here at is in
          let same : first ≡ field = cc (said) in
          elim (cases_Bool (keeps_number first)) [
            | inl kept ↦ rw (here, kept) (sym kept ∙ ap (λ (field : Field). keeps_number field) same)
            | inr left ↦ rw (here, left) (sym left ∙ ap (λ (field : Field). keeps_number field) same)
          ]
      | inr away ↦ rw away (mapped (column_named alias fields) ∙ kept-column alias fields field (rw away at is))
    ] where
      mapped : (column : Option ℕ) → is_some (option_map (further (keeps_number first)) column) ≡ is_some column
      mapped None = refl
      mapped (Some column) = refl

-- In its column stand its numbers.
pub number-there : (g : Field → Option ℤ) (alias : List ℕ) (fields : List Field) (field : Field) (column : ℕ) → found alias fields ≡ Some field → column_named alias fields ≡ Some column
    → number_at (map g (filter keeps_number fields)) column ≡ g field
number-there g alias [] field column is at = absurd cc
number-there g alias (first ∷ fields) field column is at =
    elim (cases_Bool (bytes_eq alias first.alias)) [
      | inl here ↦
          let said : ◌≡◌ {A = Option Field} (Some first) (Some field) = rw here at is in
          let same : first ≡ field = cc (said) in
          elim (cases_Bool (keeps_number first)) [
            | inl kept ↦
                let first_column : ◌≡◌ {A = Option ℕ} (Some 0) (Some column) = rw (here, kept) at at in
                let start : column ≡ 0 = cc (first_column) in
                rw (kept, start) (ap g same)
            | inr left ↦
                let none : ◌≡◌ {A = Option ℕ} None (Some column) = rw (here, left) at at in
                absurd cc
          ]
      | inr away ↦ behind (column_named alias fields) (λ later has. number-there g alias fields field later (rw away at is) has) (rw away at at)
    ] where
      behind : (later : Option ℕ) → ((there : ℕ) → later ≡ Some there → number_at (map g (filter keeps_number fields)) there ≡ g field)
          → option_map (further (keeps_number first)) later ≡ Some column → number_at (map g (filter keeps_number (first ∷ fields))) column ≡ g field
      behind None has at = absurd cc
      behind (Some later) has at =
          let others : number_at (map g (filter keeps_number fields)) later ≡ g field = has later refl in
          let there : further (keeps_number first) later ≡ column = cc (at) in
          elim (cases_Bool (keeps_number first)) [
            | inl kept ↦
                let next : column ≡ suc later = sym (rw kept at there) in
                rw (kept, next) others
            | inr left ↦
                let next : column ≡ later = sym (rw left at there) in
                rw (left, next) others
          ]

-- Where no field has the alias there is no column.
pub no-column : (alias : List ℕ) (fields : List Field) → found alias fields ≡ None → column_named alias fields ≡ None
no-column alias [] is = refl
no-column alias (first ∷ fields) is =
    elim (cases_Bool (bytes_eq alias first.alias)) [
      | inl here ↦
          let some : ◌≡◌ {A = Option Field} (Some first) None = rw here at is in
          absurd cc
      | inr away ↦ rw away (ap (option_map (further (keeps_number first))) (no-column alias fields (rw away at is)))
    ]

-- ---- the field of a key

-- A key sorts by the field that a search names.
pub record SortsByField (sort : Option Sort) (def : IndexDef) (key : SortKey) : Type 0 where
  pub field : Field
  pub named : sort_field sort def ≡ Some field
  pub name : key.field.now ≡ field.name
  pub numeric : key.numeric ≡ is_numeric field.kind
  pub kept : is_some key.column ≡ keeps_number field
  pub there : (g : Field → Option ℤ) (column : ℕ) → key.column ≡ Some column → number_at (map g (filter keeps_number def.fields)) column ≡ g field

sorts-found : (sort : Sort) (def : IndexDef) (key : SortKey) (at : Option Field) → found sort.field def.fields ≡ at → option_map (key_of_field sort.descending) at ≡ Some (key_seen key)
    → key.column ≡ column_named sort.field def.fields → SortsByField (Some sort) def key
sorts-found sort def key None is seen column = absurd cc
sorts-found sort def key (Some field) is seen column =
    let same : key_of_field sort.descending field ≡ key_seen key = cc (seen) in
    record {
      field = field;
      named = is;
      name = sym (ap (λ (k : List ℕ × (Bool × _)). k.0) same);
      numeric = sym (ap (λ (k : List ℕ × (Bool × _)). k.1.0) same);
      kept = ap is_some column ∙ kept-column sort.field def.fields field is;
      there = λ g number at. number-there g sort.field def.fields field number is (sym column ∙ at);
    }

sorts-by : (sort : Option Sort) (def : IndexDef) (key : SortKey) → key_for sort def.fields ≡ Some (key_seen key) → key.column ≡ column_for sort def.fields → SortsByField sort def key
sorts-by None def key seen column = absurd cc
sorts-by (Some sort) def key seen column = sorts-found sort def key (found sort.field def.fields) refl seen column

pub sorts-field : (what : Searching) (def : IndexDef) (shape : Shape) (key : SortKey) → IsShapeOf what def shape → shape.sort ≡ Some key → SortsByField what.sort def key
sorts-field what def shape key s is =
    sorts-by what.sort def key (sym s.sort ∙ ap (option_map key_seen) is) (sym (ap (option_and_then (λ (key : SortKey). key.column)) is) ∙ s.column)

-- ---- what it sees

number-seen : (kind : FieldKind) (text : Option (List ℕ)) → is_numeric kind ≡ true → num_or_null (value_number kind text) ≡ value_seen true text
number-seen kinds.Text text numeric = absurd cc
number-seen (kinds.Tag separator case) text numeric = absurd cc
number-seen kinds.Numeric None numeric = refl
number-seen kinds.Numeric (Some text) numeric = refl

kept-numeric : (field : Field) → keeps_number field ≡ true → is_numeric field.kind ≡ true
kept-numeric field kept = (and_parts field.sortable (is_numeric field.kind) kept).1

-- The numbers in the column of a shape's key, where it has one, are what the key sees of the documents.
pub column-seen : (what : Searching) (def : IndexDef) (shape : Shape) (has : ℕ → Bool) (numbers : ℕ → ℕ → Option ℤ) (docs : List Doc)
    → IsShapeOf what def shape → AreNumbered has numbers def docs → IfSome shape.sort (λ key. AreSeen has numbers key docs)
column-seen what def shape has numbers docs s numbered = pick shape.sort refl
  where
    pick : (sort : Option SortKey) → shape.sort ≡ sort → IfSome sort (λ key. AreSeen has numbers key docs)
    pick None is = tt
    pick (Some key) is =
        let by = sorts-field what def shape key s is in
        record {
          each =
              λ id number doc column has_it at.
              let numeric : is_numeric by.field.kind ≡ true = kept-numeric by.field (sym by.kept ∙ ap is_some column) in
              let same : numbers id number ≡ field_number doc by.field = numbered.kept id number doc has_it at ∙ by.there (field_number doc) number column in
              ap num_or_null same
              ∙ (number-seen by.field.kind (get_field doc.hash by.field.name) numeric
              ∙ λ i. value_seen (sym (by.numeric ∙ numeric) i) (get_field doc.hash (sym by.name i)));
        }

-- ---- what is read

-- where no row is shown, nothing is read either way
pub same-reads : (kept no_content : Bool) (num offset count : ℕ)
    → (if num == 0 then 0 else (if kept then (if no_content then 0 else min num (count - offset)) else count))
    ≡ (if not kept then (if num == 0 then 0 else count) else (if no_content then 0 else min num (count - offset)))
same-reads false no_content num offset count = refl
same-reads true true num offset count = elim (cases_Bool (num == 0)) [ inl none ↦ rw none refl | inr some ↦ rw some refl ]
same-reads true false num offset count =
    elim (cases_Bool (num == 0)) [
      | inl none ↦
          let nothing : num ≡ 0 = eqb-true num 0 none in
          rw none (omega (arith, nothing))
      | inr some ↦ rw some refl
    ]

-- documents are read to be sorted just where the key has no column
pub column-reads : (sort : Option Sort) (def : IndexDef) (key : SortKey) → SortsByField sort def key → reads_to_sort (sort_field sort def) ≡ not (is_some key.column)
column-reads sort def key by = ap reads_to_sort by.named ∙ ap not (sym by.kept)
