-- What is seen of a document's numbers once they are in the ranges.
use Rattle.std.proofs.Common.{◌≡◌, ◌≢◌, ℕ, suc, zero, ◌+◌, ◌<◌, ◌^◌, Bool, false, true, ℤ, pos, List, [], ◌∷◌, ◌++◌, length, take, slice_index_or, refl, ap, sym, subst, inl, inr, ◌∙◌, arith, append-nil, append_assoc, nat_eq, Option, None, Some, IfSome}
use Rattle.std.specs.Prelude.{int_le, nat_lt, nat_le, neg_ℤ, slice_get, ◌==◌}
use Rattle.std.proofs.lemmas.Bool.{cases_Bool}
use Rattle.std.proofs.lemmas.Bool.Decides.{nat_tests}
use Rattle.std.proofs.lemmas.Int.{ints}
use Rattle.std.specs.List.{AllByRecursion, filter}
use Rattle.std.specs.Map.{remove_entry}
use Rattle.field_text.specs.Numbers.{digits_of, negative, number_of, positive}
use Rattle.ft_base.specs.Hash.{get_field}
use Rattle.ft_base.specs.declared.definition.Field.{Field}
use Rattle.ft_base.specs.declared.definition.FieldKind.{FieldKind}
use Rattle.ft_base.specs.declared.definition.FieldKind.TheVariants as kinds
use Rattle.doc_table.specs.Table.{Vector}
use Rattle.ft_base.specs.declared.definition.IndexDef.{IndexDef}
use Rattle.ft_base.specs.Docs.{Doc}
use Rattle.ft_meaning.specs.Sortable.{sorting_vector}
use Rattle.ft_meaning.specs.Holds.{value_number}
use Rattle.inverted_list.specs.Listing.{RisesAbove}
use Rattle.inverted_list.specs.declared.marker.Markers.{Markers}
use Rattle.numeric_ranges.specs.Ranges.{IsAbove, Rows}
use Rattle.numeric_ranges.specs.Values.{Entries}
use Rattle.posting_block.specs.declared.hits.NumHit.{NumHit}
use Rattle.ft_index.specs.Adding.{IsSeen, IsUnseen, RangesHaveAll}
use Rattle.ft_index.specs.Entries.{is_ranged, number_entries, searched_number}
use Rattle.ft_index.specs.Has.{NumbersHave, RangesHave, alive}
use Rattle.ft_index.specs.Lists.{has_id, rows_of}
use Rattle.ft_index.specs.Markers.{AllBefore, TakesMarkers, range_marker, slot_marker}
use Rattle.ft_index.specs.Numbering.{FieldGains, IsFirst, RangesGain, RowsGain, value_entry}
use Rattle.ft_index.specs.UpTo.{RowsUpTo}
use Rattle.ft_index.specs.Without.{without}
use Rattle.ft_index.proofs.AliveLaws.{AreOf, alive-killed, alive-seen, alive-unseen, is_other}
use Rattle.ft_index.proofs.FieldLaws.{decided, fields-next, get-taken}
use Rattle.ft_index.proofs.PartedLaws.{filter-all, filter-twice, fits, fitting-ids, fitting-parted, least}
use Rattle.ft_index.proofs.SlotLaws.{rows-past, rows-pushed_here, rows-pushed_other}
use Rattle.ft_index.proofs.TakingLaws.{before-taken, takes-again, takes-field}

-- a number that is read is one of 64 bits
positive-fits : (n : Option ℕ) (v : ℤ) → positive n ≡ Some v → int_le least v ≡ true
positive-fits None v is = absurd (cc (is))
positive-fits (Some n) v is = elim (cases_Bool (nat_lt n (2 ^ 63))) [
  | inl y ↦
      let reads : ◌≡◌ {A = Option ℤ} (Some (pos n)) (Some v) = rw y at is in
      let one : pos n ≡ v = cc (reads) in
      subst (λ (w : ℤ). int_le least w ≡ true) one refl
  | inr m ↦ absurd (cc (rw m at is))
]

negated-fits : (n : ℕ) → nat_le n (2 ^ 63) ≡ true → int_le least (neg_ℤ (pos n)) ≡ true
negated-fits zero h = refl
negated-fits (suc n) h = grind (arith, ints, nat_tests)

negative-fits : (n : Option ℕ) (v : ℤ) → negative n ≡ Some v → int_le least v ≡ true
negative-fits None v is = absurd (cc (is))
negative-fits (Some n) v is = elim (cases_Bool (nat_le n (2 ^ 63))) [
  | inl y ↦
      let reads : ◌≡◌ {A = Option ℤ} (Some (neg_ℤ (pos n))) (Some v) = rw y at is in
      let one : neg_ℤ (pos n) ≡ v = cc (reads) in
      subst (λ (w : ℤ). int_le least w ≡ true) one (negated-fits n y)
  | inr m ↦ absurd (cc (rw m at is))
]

number-fits : (text : List ℕ) (v : ℤ) → number_of text ≡ Some v → int_le least v ≡ true
number-fits [] v is = absurd (cc (is))
number-fits (b ∷ bs) v is = elim (cases_Bool (b == 43)) [
  | inl y ↦ positive-fits (digits_of bs) v (rw y at is)
  | inr n ↦ elim (cases_Bool (b == 45)) [
    | inl y ↦ negative-fits (digits_of bs) v (rw (n, y) at is)
    | inr m ↦ positive-fits (digits_of (b ∷ bs)) v (rw (n, m) at is)
  ]
]

value-fits : (kind : FieldKind) (value : Option (List ℕ)) (v : ℤ) → value_number kind value ≡ Some v → int_le least v ≡ true
value-fits kinds.Numeric (Some value) v is = number-fits value v is
value-fits kinds.Numeric None v is = absurd (cc (is))
value-fits kinds.Text value v is = absurd (cc (is))
value-fits (kinds.Tag separator case) value v is = absurd (cc (is))

searched-fits : (field : Option Field) (doc : Doc) (v : ℤ) → searched_number field doc ≡ Some v → int_le least v ≡ true
searched-fits None doc v is = absurd (cc (is))
searched-fits (Some field) doc v is = elim (cases_Bool field.noindex) [
  | inl y ↦ absurd (cc (rw y at is))
  | inr n ↦ value-fits field.kind (get_field doc.hash field.name) v (rw n at is)
]

-- a document more has its entry last
number_entries-first : (def : IndexDef) (number : ℕ) (doc : Doc) (docs : List Doc) → number_entries def number (doc ∷ docs) ≡ value_entry doc.id (searched_number (slice_get def.fields number) doc) ++ number_entries def number docs
number_entries-first def number doc docs = by_value (searched_number (slice_get def.fields number) doc) refl
  where
    by_value : (value : Option ℤ) → searched_number (slice_get def.fields number) doc ≡ value → number_entries def number (doc ∷ docs) ≡ value_entry doc.id value ++ number_entries def number docs
    by_value None is = rw is refl
    by_value (Some value) is = rw is refl

number_entries-append : (def : IndexDef) (number : ℕ) (docs : List Doc) (doc : Doc)
    → number_entries def number (docs ++ doc ∷ []) ≡ number_entries def number docs ++ value_entry doc.id (searched_number (slice_get def.fields number) doc)
number_entries-append def number [] doc = number_entries-first def number doc [] ∙ append-nil (value_entry doc.id (searched_number (slice_get def.fields number) doc))
number_entries-append def number (first ∷ docs) doc =
    let mine = value_entry first.id (searched_number (slice_get def.fields number) first) in
    let more = value_entry doc.id (searched_number (slice_get def.fields number) doc) in
    number_entries-first def number first (docs ++ doc ∷ [])
    ∙ (ap (λ (rest : Entries). mine ++ rest) (number_entries-append def number docs doc)
    ∙ (sym (append_assoc mine (number_entries def number docs) more) ∙ ap (λ (es : Entries). es ++ more) (sym (number_entries-first def number first docs))))

value-own : (id : ℕ) (value : Option ℤ) → AreOf id (value_entry id value)
value-own id None = tt
value-own id (Some value) = (refl, tt)

pub entries-fit : (def : IndexDef) (number : ℕ) (docs : List Doc) → AllByRecursion (λ e. fits e ≡ true) (number_entries def number docs)
entries-fit def number [] = tt
entries-fit def number (doc ∷ docs) = subst (AllByRecursion (λ (e : ℕ × NumHit). fits e ≡ true)) (sym (number_entries-first def number doc docs))
    (by_value (searched_number (slice_get def.fields number) doc) refl (entries-fit def number docs))
  where
    by_value : (value : Option ℤ) → searched_number (slice_get def.fields number) doc ≡ value → AllByRecursion (λ (e : ℕ × NumHit). fits e ≡ true) (number_entries def number docs)
        → AllByRecursion (λ (e : ℕ × NumHit). fits e ≡ true) (value_entry doc.id value ++ number_entries def number docs)
    by_value None is rest = rest
    by_value (Some value) is rest = (searched-fits (slice_get def.fields number) doc value is, rest)

-- ranges that got a document's number stand for the document too
gained-seen : (def : IndexDef) (number : ℕ) (field : Field) (doc : Doc) (live : List (ℕ × Vector)) (docs : List Doc) (old new : Rows) → slice_get def.fields number ≡ Some field → IsAbove doc.id old
    → RowsGain (value_entry doc.id (searched_number (Some field) doc)) (Some old) (Some new) → RangesHave def live number docs old → RangesHave def (live ++ (doc.id, sorting_vector def doc) ∷ []) number (docs ++ doc ∷ []) new
gained-seen def number field doc live docs old new at above gains has =
    let more = value_entry doc.id (searched_number (Some field) doc) in
    let es = filter fits has.entries in
    let own = value-own doc.id (searched_number (Some field) doc) in
    let kept : alive live es ≡ number_entries def number docs = filter-twice (λ (e : ℕ × NumHit). has_id live e.0) fits has.entries
    ∙ (ap (filter fits) has.same ∙ filter-all fits (number_entries def number docs) (entries-fit def number docs)) in
    record {
      ranged = has.ranged;
      entries = es ++ more;
      partition = gains.0;
      parted = gains.1 es (fitting-parted has.entries old has.partition has.parted);
      same = alive-seen live es more doc.id (sorting_vector def doc) (fitting-ids has.entries old doc.id has.partition above has.parted) own
          ∙ (ap (λ (entries : Entries). entries ++ more) kept
          ∙ (ap (λ (f : Option Field). number_entries def number docs ++ value_entry doc.id (searched_number f doc)) (sym at) ∙ sym (number_entries-append def number docs doc)));
    }

field-seen : (def : IndexDef) (number : ℕ) (doc : Doc) (live : List (ℕ × Vector)) (docs : List Doc) (field : Option Field) (old new : Option Rows) → slice_get def.fields number ≡ field → IfSome old (IsAbove doc.id)
    → FieldGains field doc old new → NumbersHave def live number docs old → NumbersHave def (live ++ (doc.id, sorting_vector def doc) ∷ []) number (docs ++ doc ∷ []) new
field-seen def number doc live docs None None new at above same has = subst (λ (rows : Option Rows). NumbersHave def (live ++ (doc.id, sorting_vector def doc) ∷ []) number (docs ++ doc ∷ []) rows) (sym same) has
field-seen def number doc live docs None (Some old) new at above same has = let ranged : is_ranged None ≡ true = ap is_ranged (sym at) ∙ has.ranged in absurd (cc (ranged))
field-seen def number doc live docs (Some field) None new at above same has = subst (λ (rows : Option Rows). NumbersHave def (live ++ (doc.id, sorting_vector def doc) ∷ []) number (docs ++ doc ∷ []) rows) (sym same) has
field-seen def number doc live docs (Some field) (Some old) None at above gains has = absurd gains
field-seen def number doc live docs (Some field) (Some old) (Some new) at above gains has = gained-seen def number field doc live docs old new at above gains has

pub numbers-seen : (def : IndexDef) (doc : Doc) (old new : List (Option Rows)) → ((number : ℕ) → IfSome (rows_of old number) (IsAbove doc.id)) → RangesGain def.fields doc old new
    → IsSeen def doc (RangesHaveAll def old) (RangesHaveAll def new)
numbers-seen def doc old new above gains live docs has number =
    field-seen def number doc live docs (slice_get def.fields number) (rows_of old number) (rows_of new number) refl (above number) (gains number) (has number)

-- what lists have does not change by a number of an id that is not live
pub rows-unseen : (def : IndexDef) (number id : ℕ) (live : List (ℕ × Vector)) (docs : List Doc) (value : Option ℤ) (old new : Option Rows) → has_id live id ≡ false
    → RowsGain (value_entry id value) old new → NumbersHave def live number docs old → NumbersHave def live number docs new
rows-unseen def number id live docs value None new dead same has = subst (NumbersHave def live number docs) (sym same) has
rows-unseen def number id live docs value (Some old) None dead gains has = absurd gains
rows-unseen def number id live docs value (Some old) (Some new) dead gains has = record {
  ranged = has.ranged;
  partition = gains.0;
  entries = has.entries ++ value_entry id value;
  parted = gains.1 has.entries has.parted;
  same = alive-unseen live has.entries (value_entry id value) id (value-own id value) dead ∙ has.same;
}

-- ranges without entries stand for no document
pub first-none : (def : IndexDef) (number : ℕ) (rows : Option Rows) → IsFirst (slice_get def.fields number) rows → NumbersHave def [] number [] rows
first-none def number None first = first
first-none def number (Some rows) first = record { ranged = first.0; partition = first.1; entries = []; parted = first.2; same = refl }

pub first-up_to : (field : Option Field) (rows : Option Rows) → IsFirst field rows → IfSome rows (RowsUpTo 0)
first-up_to field None first = tt
first-up_to field (Some rows) first = first.3

-- where an id is taken out, its numbers are dead
numbers-without : (def : IndexDef) (number id : ℕ) (docs : List Doc) → number_entries def number (without id docs) ≡ filter (is_other id) (number_entries def number docs)
numbers-without def number id [] = refl
numbers-without def number id (doc ∷ docs) =
    by_tests (nat_eq id doc.id) (searched_number (slice_get def.fields number) doc) refl refl (numbers-without def number id docs)
  where
    by_tests : (a : Bool) (value : Option ℤ) → nat_eq id doc.id ≡ a → searched_number (slice_get def.fields number) doc ≡ value → number_entries def number (without id docs) ≡ filter (is_other id) (number_entries def number docs)
        → number_entries def number (without id (doc ∷ docs)) ≡ filter (is_other id) (number_entries def number (doc ∷ docs))
    by_tests true None same is rest = rw (same, is) rest
    by_tests true (Some value) same is rest = rw (same, is, same) rest
    by_tests false None same is rest = rw (same, is) rest
    by_tests false (Some value) same is rest = rw (same, is, same) (ap (λ (others : Entries). (doc.id, record { value = value }) ∷ others) rest)

pub rows-without : (def : IndexDef) (number id : ℕ) (live : List (ℕ × Vector)) (docs : List Doc) (rows : Option Rows) → RisesAbove 0 live
    → NumbersHave def live number docs rows → NumbersHave def (remove_entry (nat_eq id) live) number (without id docs) rows
rows-without def number id live docs None rises has = has
rows-without def number id live docs (Some rows) rises has = record {
  ranged = has.ranged;
  partition = has.partition;
  entries = has.entries;
  parted = has.parted;
  same = alive-killed id live has.entries rises ∙ (ap (filter (is_other id)) has.same ∙ sym (numbers-without def number id docs));
}

-- the field at number k has no number of the document yet
gain-before : (k : ℕ) (fields : List Field) (doc : Doc) (start now : List (Option Rows)) → RangesGain (take k fields) doc start now → rows_of now k ≡ rows_of start k
gain-before k fields doc start now gains =
    subst (λ (field : Option Field). FieldGains field doc (rows_of start k) (rows_of now k)) (get-taken k fields) (gains k)

pub gain-next : (k : ℕ) (fields : List Field) (field : Field) (value : Option ℤ) (doc : Doc) (start now new : List (Option Rows)) → k < length fields → field ≡ slice_index_or fields k field
    → value ≡ searched_number (Some field) doc → RangesGain (take k fields) doc start now → RowsGain (value_entry doc.id value) (rows_of now k) (rows_of new k)
    → ((other : ℕ) → other ≢ k → rows_of new other ≡ rows_of now other) → RangesGain (take (k + 1) fields) doc start new
gain-next k fields field value doc start now new within is same gains here others =
    fields-next (λ (n : ℕ) (at : Option Field). FieldGains at doc (rows_of start n) (rows_of new n)) fields k field within (sym is)
    (subst (λ (v : Option ℤ). RowsGain (value_entry doc.id v) (rows_of start k) (rows_of new k)) same
    (subst (λ (old : Option Rows). RowsGain (value_entry doc.id value) old (rows_of new k)) (gain-before k fields doc start now gains) here))
    (λ other away. subst (FieldGains (slice_get (take k fields) other) doc (rows_of start other)) (sym (others other away)) (gains other))

pub gain-unseen : (k : ℕ) (value : Option ℤ) (id : ℕ) (start now new : List (Option Rows)) (def : IndexDef) → IsUnseen id (RangesHaveAll def start) (RangesHaveAll def now)
    → RowsGain (value_entry id value) (rows_of now k) (rows_of new k) → ((other : ℕ) → other ≢ k → rows_of new other ≡ rows_of now other) → IsUnseen id (RangesHaveAll def start) (RangesHaveAll def new)
gain-unseen k value id start now new def unseen here others live docs dead has number = elim (decided number k) [
  | inl is ↦ subst (λ (n : ℕ). NumbersHave def live n docs (rows_of new n)) (sym is) (rows-unseen def k id live docs value (rows_of now k) (rows_of new k) dead here (unseen live docs dead has k))
  | inr away ↦ subst (NumbersHave def live number docs) (sym (others number away)) (unseen live docs dead has number)
]

-- the ranges of a field more
pub first-next : (k : ℕ) (fields : List Field) (field : Field) (ranges : List (Option Rows)) (slot : Option Rows) → length ranges ≡ k → k < length fields → field ≡ slice_index_or fields k field → IsFirst (Some field) slot
    → ((number : ℕ) → IsFirst (slice_get (take k fields) number) (rows_of ranges number)) → (number : ℕ) → IsFirst (slice_get (take (k + 1) fields) number) (rows_of (ranges ++ slot ∷ []) number)
first-next k fields field ranges slot many within is first before =
    fields-next (λ (n : ℕ) (at : Option Field). IsFirst at (rows_of (ranges ++ slot ∷ []) n)) fields k field within (sym is)
    (subst (λ (n : ℕ). IsFirst (Some field) (rows_of (ranges ++ slot ∷ []) n)) many (subst (IsFirst (Some field)) (sym (rows-pushed_here ranges slot)) first))
    (λ other away. subst (IsFirst (slice_get (take k fields) other)) (sym (rows-pushed_other ranges slot other (λ same. away (same ∙ many)))) (before other))

pub first-takes : (from between to : Markers) (ranges : List (Option Rows)) (slot : Option Rows) → TakesMarkers from between (λ _. None) (range_marker ranges) → TakesMarkers between to (λ _. None) (slot_marker slot)
    → TakesMarkers from to (λ _. None) (range_marker (ranges ++ slot ∷ []))
first-takes from between to ranges slot first second =
    takes-again from between to (λ _. None) (range_marker ranges) (range_marker (ranges ++ slot ∷ [])) (λ _. tt) first
    (takes-field (length ranges) between to (range_marker ranges) (range_marker (ranges ++ slot ∷ [])) before
    (subst (λ (old : Option Rows). TakesMarkers between to (slot_marker old) (slot_marker (rows_of (ranges ++ slot ∷ []) (length ranges)))) (sym (rows-past ranges))
    (subst (λ (new : Option Rows). TakesMarkers between to (λ _. None) (slot_marker new)) (sym (rows-pushed_here ranges slot)) second))
    (λ name away. ap (λ (rows : Option Rows). slot_marker rows name.1) (rows-pushed_other ranges slot name.0 away)))
  where
    before : AllBefore between (range_marker ranges)
    before = before-taken from between (λ _. None) (range_marker ranges) (λ _. tt) first
