-- Lists without a dead entry have no more entries than there are live records.
use Rattle.std.proofs.Common.{◌≡◌, ℕ, suc, zero, ◌+◌, ◌<◌, ◌≤◌, false, true, cond, List, [], ◌∷◌, length, refl, ap, sym, subst, inl, inr, ◌∙◌, arith, nat_eq, Option, None, Some, IfSome}
use Rattle.std.specs.Prelude.{int_le, slice_get}
use Rattle.std.proofs.lemmas.Bool.{cases_Bool, eqb-true}
use Rattle.std.proofs.lemmas.Bool.Decides.{nat_tests}
use Rattle.std.proofs.lemmas.Cmp.{eq_by_cmp_equiv, nat_cmp_total}
use Rattle.std.proofs.lemmas.List.Sums.{sum_by-cons}
use Rattle.std.proofs.lemmas.Map.Keys.{IsDistinct-from_sorted}
use Rattle.std.proofs.lemmas.Map.Text.{is_eq-slice_cmp}
use Rattle.std.specs.Cmp.Lexicographic.{bytes_decides}
use Rattle.std.specs.List.{AllByRecursion, IsDistinct, list_any, sum_by}
use Rattle.std.specs.Map.{keys_of}
use Rattle.std.specs.Ordering.{eq_by_cmp, int_eq, nat_cmp}
use Rattle.std.specs.Str.{bytes_eq}
use Rattle.doc_table.specs.Table.{Vector}
use Rattle.ft_base.specs.declared.definition.Field.{Field}
use Rattle.ft_base.specs.declared.definition.IndexDef.{IndexDef}
use Rattle.ft_base.specs.Docs.{Doc}
use Rattle.ft_meaning.specs.Records.{live_records, number_count, tag_count, word_count, words_of}
use Rattle.gc_splice.specs.Alive.{all_alive}
use Rattle.gc_splice.proofs.AliveLaws.{all_kept}
use Rattle.inverted_list.specs.Listing.{Listing}
use Rattle.inverted_list.specs.Names.{word_cmp}
use Rattle.numeric_ranges.proofs.ReachLaws.{below_next, list_none, reach_below}
use Rattle.numeric_ranges.proofs.ValueLaws.{eq_same, eq_true, le_from_lt}
use Rattle.numeric_ranges.specs.Ranges.{AreParted, LowsRise, Rows, is_below, lies_in, list_at, low_of}
use Rattle.numeric_ranges.specs.Values.{Entries}
use Rattle.posting_block.specs.declared.hits.NumHit.{NumHit}
use Rattle.posting_block.specs.declared.hits.TextHit.{TextHit}
use Rattle.term_dict.specs.Tags.{FieldTags, FieldsRise, TagsRise, entries_in, entries_in_fields, tags_of}
use Rattle.term_dict.specs.Terms.{Lists, WordsRise, entries_in_all, entries_of}
use Rattle.ft_index.specs.Adding.{RangesHaveAll, TagsHave, WordsHave}
use Rattle.ft_index.specs.Entries.{is_ranged, searched_tags}
use Rattle.ft_index.specs.Has.{Has, NumbersHave, alive}
use Rattle.ft_index.specs.Lists.{AllLists, has_id, rows_of}
use Rattle.ft_index.specs.Records.{all_entries, entries_in_ranges, entries_in_slot}
use Rattle.ft_index.specs.Tagging.{AreApart}
use Rattle.ft_index.specs.Thinned.{ListsLive, RangesLive, RowsLive, TagsLive, WordsLive}
use Rattle.ft_index.proofs.CountLaws.{any-other, count-cons, count-same, distinct, having, named, numbered, numbered-le, one_if, others, same-name, sum-le, sum-none, sum-plus, sum-turned, without_at, distinct-apart}
use Rattle.ft_index.proofs.FieldLaws.{below-or-not, get-beyond}
use Rattle.ft_index.proofs.PartedLaws.{filter-twice}
use Rattle.ft_index.proofs.RecordsLaws.{in_rows, number-entries-count, parted-count, searched-apart, tag-entries-count, tags-searched, word-count}

-- ---- names counted in two ways

-- one of them counted beside the others is no more than all
distinct-with : (name : List ℕ) (names : List (List ℕ)) → distinct (others name names) + cond (list_any (bytes_eq name) names) 1 0 ≤ distinct names
distinct-with name [] = omega arith
distinct-with name (first ∷ names) = elim (cases_Bool (bytes_eq name first)) [
  | inl y ↦ elim (cases_Bool (list_any (bytes_eq first) names)) [
    | inl m ↦
        let any : list_any (bytes_eq name) names ≡ true = ap (λ (n : List ℕ). list_any (bytes_eq n) names) ((bytes_decides name first).0 y) ∙ m in
        let rest : distinct (others name names) + 1 ≤ distinct names = rw any at (distinct-with name names) in
        rw (y, m) (omega (arith, rest))
    | inr m ↦ rw (y, m) (omega (arith, distinct-with name names))
  ]
  | inr n ↦ elim (cases_Bool (list_any (bytes_eq first) names)) [
    | inl m ↦
        let left : list_any (bytes_eq first) (others name names) ≡ true = any-other name first names n ∙ m in
        rw (n, left, m) (distinct-with name names)
    | inr m ↦
        let left : list_any (bytes_eq first) (others name names) ≡ false = any-other name first names n ∙ m in
        rw (n, left, m) (omega (arith, distinct-with name names))
  ]
]

no-list : {P : Type 0} (word : List ℕ) (lists : Lists P) → list_any (bytes_eq word) (keys_of lists) ≡ false → entries_of lists word ≡ []
no-list word [] away = refl
no-list word (row ∷ lists) away = elim (cases_Bool (bytes_eq word row.0)) [
  | inl y ↦ absurd (cc (rw y at away))
  | inr n ↦ rw n (no-list word lists (rw n at away))
]

module _ {D : Type 0} where
  named-with : (names : D → List (List ℕ)) (name : List ℕ) (docs : List D) → named (λ d. others name (names d)) docs + having names name docs ≤ named names docs
  named-with names name docs =
      omega (
        arith,
        sum-plus (λ d. distinct (others name (names d))) (λ d. cond (list_any (bytes_eq name) (names d)) 1 0) docs,
        sum-le (λ d. distinct (others name (names d)) + cond (list_any (bytes_eq name) (names d)) 1 0) (λ d. distinct (names d)) (λ d. distinct-with name (names d)) docs,
      )

  -- where the list of each name has an entry at most for each document that has the name, the lists have one at most for each name of each document
  named-listed : {P : Type 0} (lists : Lists P) (names : D → List (List ℕ)) (docs : List D) → AreApart (keys_of lists)
      → ((name : List ℕ) → length (entries_of lists name) ≤ having names name docs) → entries_in_all lists ≤ named names docs
  named-listed [] names docs apart h = omega arith
  named-listed (row ∷ lists) names docs apart h =
      let own : length row.1.entries ≤ having names row.0 docs = rw (same-name row.0) at (h row.0) in
      omega (arith, own, named-listed lists (λ d. others row.0 (names d)) docs apart.1 left, named-with names row.0 docs, sum_by-cons (λ r. length r.1.entries) row lists)
    where
      left : (name : List ℕ) → length (entries_of lists name) ≤ having (λ d. others row.0 (names d)) name docs
      left name = elim (cases_Bool (bytes_eq name row.0)) [
        | inl y ↦
            let one : name ≡ row.0 = (bytes_decides name row.0).0 y in
            let none : entries_of lists name ≡ [] = ap (entries_of lists) one ∙ no-list row.0 lists apart.0 in
            omega (arith, ap length none)
        | inr n ↦
            let away : bytes_eq row.0 name ≡ false = elim (cases_Bool (bytes_eq row.0 name)) [ inl z ↦ absurd (cc (subst (λ (w : List ℕ). bytes_eq w row.0 ≡ true) ((bytes_decides row.0 name).0 z) (same-name row.0), n)) | inr m ↦ m ] in
            let here : length (entries_of lists name) ≤ having names name docs = rw n at (h name) in
            omega (
              arith,
              here,
              count-same (λ d. list_any (bytes_eq name) (names d)) (λ d. list_any (bytes_eq name) (others row.0 (names d)))
                  (λ d. sym (any-other row.0 name (names d) away)) docs,
            )
      ]

-- ---- the keys of a dictionary differ

names-apart : (words : List (List ℕ)) → IsDistinct (eq_by_cmp word_cmp) words → AreApart words
unfolding IsDistinct
names-apart [] apart = tt
names-apart (word ∷ words) apart = (none-same words apart.0, names-apart words apart.1)
  where
    none-same : (words : List (List ℕ)) → AllByRecursion (λ other. eq_by_cmp word_cmp word other ≡ false) words → list_any (bytes_eq word) words ≡ false
    none-same [] none = refl
    none-same (other ∷ words) none =
        let away : bytes_eq word other ≡ false = sym (is_eq-slice_cmp word other) ∙ none.0 in
        rw away (none-same words none.1)

words-apart : {P : Type 0} (lists : Lists P) → WordsRise lists → AreApart (keys_of lists)
words-apart lists rise = names-apart (keys_of lists) (IsDistinct-from_sorted word_cmp (keys_of lists) rise)

-- the live ones of entries of which all are live are as many
all-counted : {P : Type 0} (live : List (ℕ × Vector)) (es : List (ℕ × P)) → all_alive (has_id live) es ≡ true → length es ≡ length (alive live es)
all-counted live es all = ap length (sym (all_kept (has_id live) es all))

-- ---- words

words-most : (def : IndexDef) (live : List (ℕ × Vector)) (docs : List Doc) (words : Lists TextHit) → WordsRise words → WordsHave def words live docs → WordsLive (has_id live) words
    → entries_in_all words ≤ sum_by (word_count def) docs
words-most def live docs words rise has each =
    named-listed words (words_of def) docs (words-apart words rise)
    (λ word. omega (arith, all-counted live (entries_of words word) (each word), ap length (has word), word-count def word docs))

-- ---- tags

-- a number that is counted beside the others
numbered-with : {F : Type 0} (fields : List F) (x : ℕ → ℕ) (at : ℕ) → at < length fields → numbered fields (without_at at x) + x at ≤ numbered fields x
numbered-with [] x at within = absurd (omega (arith, within))
numbered-with (field ∷ fields) x zero within =
    let own : without_at zero x 0 ≡ 0 = refl in
    omega (arith, own, numbered-le fields (λ i. without_at zero x (suc i)) (λ i. x (suc i)) (λ i. later i))
  where
    later : (i : ℕ) → without_at zero x (suc i) ≤ x (suc i)
    later i = let apart : nat_eq (suc i) zero ≡ false = grind (arith, nat_tests) in rw apart (omega arith)
numbered-with (field ∷ fields) x (suc at) within =
    let away : nat_eq 0 (suc at) ≡ false = grind (arith, nat_tests) in
    let own : without_at (suc at) x 0 ≡ x 0 = rw away refl in
    omega (
      arith,
      own,
      numbered-le fields (λ i. without_at (suc at) x (suc i)) (without_at at (λ i. x (suc i))) (λ i. shifted i),
      numbered-with fields (λ i. x (suc i)) at (omega (arith, within)),
    )
  where
    shifted : (i : ℕ) → without_at (suc at) x (suc i) ≤ without_at at (λ j. x (suc j)) i
    shifted i = elim (cases_Bool (nat_eq i at)) [
      | inl y ↦ let both : nat_eq (suc i) (suc at) ≡ true = grind (arith, nat_tests, y) in rw (y, both) (omega arith)
      | inr n ↦ let both : nat_eq (suc i) (suc at) ≡ false = grind (arith, nat_tests, n) in rw (n, both) (omega arith)
    ]

not-equal : (a b : ℕ) → eq_by_cmp nat_cmp a b ≡ false → nat_eq a b ≡ false
not-equal a b away = elim (cases_Bool (nat_eq a b)) [
  | inl y ↦ absurd (cc (subst (λ (n : ℕ). eq_by_cmp nat_cmp a n ≡ true) (eqb-true a b y) ((eq_by_cmp_equiv nat_cmp_total).refl a), away))
  | inr n ↦ n
]

no-tags : (field : ℕ) (lists : FieldTags) → AllByRecursion (λ other. eq_by_cmp nat_cmp field other ≡ false) (keys_of lists) → tags_of lists field ≡ []
no-tags field [] away = refl
no-tags field (row ∷ lists) away = rw (not-equal field row.0 away.0) (no-tags field lists away.1)

-- the entries of the fields by number are all of them, where fields beyond the last have none
numbered-most : {F : Type 0} (fields : List F) (lists : FieldTags) (x : ℕ → ℕ) → IsDistinct (eq_by_cmp nat_cmp) (keys_of lists) → ((i : ℕ) → entries_in_all (tags_of lists i) ≤ x i)
    → ((i : ℕ) → length fields ≤ i → x i ≡ 0) → entries_in_fields lists ≤ numbered fields x
unfolding IsDistinct
numbered-most fields [] x apart h beyond = omega arith
numbered-most fields (row ∷ lists) x apart h beyond =
    let own : entries_in_all row.1 ≤ x row.0 = rw (same-number row.0) at (h row.0) in
    let rest : entries_in_fields lists ≤ numbered fields (without_at row.0 x) = numbered-most fields lists (without_at row.0 x) apart.1 left none in
    elim (below-or-not row.0 (length fields)) [
      | inl within ↦ omega (arith, own, rest, numbered-with fields x row.0 within, sum_by-cons (λ r. entries_in_all r.1) row lists)
      | inr past ↦ omega (arith, own, beyond row.0 past, rest, numbered-le fields (without_at row.0 x) x fewer, sum_by-cons (λ r. entries_in_all r.1) row lists)
    ]
  where
    same-number : (n : ℕ) → nat_eq n n ≡ true
    same-number n = grind (arith, nat_tests)

    fewer : (i : ℕ) → without_at row.0 x i ≤ x i
    fewer i = elim (cases_Bool (nat_eq i row.0)) [ inl y ↦ rw y (omega arith) | inr n ↦ rw n (omega arith) ]

    left : (i : ℕ) → entries_in_all (tags_of lists i) ≤ without_at row.0 x i
    left i = elim (cases_Bool (nat_eq i row.0)) [
      | inl y ↦
          let is : i ≡ row.0 = eqb-true i row.0 y in
          let gone : entries_in_all (tags_of lists i) ≡ 0 = ap (λ (n : ℕ). entries_in_all (tags_of lists n)) is ∙ ap entries_in_all (no-tags row.0 lists apart.0) in
          rw y (omega (arith, gone))
      | inr n ↦
          let here : entries_in_all (tags_of lists i) ≤ x i = rw n at (h i) in
          rw n here
    ]

    none : (i : ℕ) → length fields ≤ i → without_at row.0 x i ≡ 0
    none i past = omega (arith, fewer i, beyond i past)

numbered-under : {F : Type 0} (fields : List F) (y : F → ℕ) (x : ℕ → ℕ) → ((i : ℕ) (field : F) → slice_get fields i ≡ Some field → x i ≤ y field) → numbered fields x ≤ sum_by y fields
numbered-under [] y x h = omega arith
numbered-under (field ∷ fields) y x h =
    omega (arith, sum_by-cons y field fields, h 0 field refl, numbered-under fields y (λ i. x (suc i)) (λ i f is. h (suc i) f is))

-- how many tags the documents have in the field of a number
abbrev field_records : IndexDef → List Doc → ℕ → ℕ
field_records def docs number = named (λ (doc : Doc). searched_tags (slice_get def.fields number) doc) docs

tags-most : (def : IndexDef) (live : List (ℕ × Vector)) (docs : List Doc) (tags : FieldTags) → FieldsRise tags → ((field : ℕ) → TagsRise (tags_of tags field))
    → TagsHave def tags live docs → TagsLive (has_id live) tags → entries_in_fields tags ≤ sum_by (λ (doc : Doc). sum_by (tag_count doc) def.fields) docs
tags-most def live docs tags rise each-rise has each =
    omega (
      arith,
      numbered-most def.fields tags (field_records def docs) (IsDistinct-from_sorted nat_cmp (keys_of tags) rise) by_field beyond,
      numbered-under def.fields (λ field. sum_by (λ doc. tag_count doc field) docs) (field_records def docs) known,
      sum-turned (λ field doc. tag_count doc field) def.fields docs,
    )
  where
    by_field : (number : ℕ) → entries_in_all (tags_of tags number) ≤ field_records def docs number
    by_field number =
        named-listed (tags_of tags number) (λ (doc : Doc). searched_tags (slice_get def.fields number) doc) docs (words-apart (tags_of tags number) (each-rise number).words)
        (λ tag. omega (arith, all-counted live (entries_in tags number tag) (each number tag), ap length (has number tag), tag-entries-count def number tag docs))

    beyond : (number : ℕ) → length def.fields ≤ number → field_records def docs number ≡ 0
    beyond number past =
        ap (λ (o : Option Field). named (λ (doc : Doc). searched_tags o doc) docs) (get-beyond def.fields number past) ∙ sum-none (λ (doc : Doc). distinct (searched_tags None doc)) (λ doc. refl) docs

    known : (number : ℕ) (field : Field) → slice_get def.fields number ≡ Some field → field_records def docs number ≤ sum_by (λ doc. tag_count doc field) docs
    known number field at =
        subst (λ (o : Option Field). named (λ (doc : Doc). searched_tags o doc) docs ≤ sum_by (λ doc. tag_count doc field) docs) (sym at)
        (sum-le (λ (doc : Doc). distinct (searched_tags (Some field) doc)) (λ doc. tag_count doc field)
        (λ doc. omega (arith, tags-searched doc field, ap length (distinct-apart (searched_tags (Some field) doc) (searched-apart field doc)))) docs)

-- ---- numbers

-- an entry lies in one row at most
in_rows-none : (rows : Rows) (e : ℕ × NumHit) (es : Entries) → LowsRise rows → is_below (low_of rows) e.1.value ≡ true → in_rows rows (e ∷ es) ≤ in_rows rows es
in_rows-none [] e es rise below = omega arith
in_rows-none (row ∷ rows) e es rise below =
    let out : lies_in row.0 (low_of rows) e.1.value ≡ false = rw (le_from_lt e.1.value row.0 below) refl in
    let none : one_if (lies_in row.0 (low_of rows) e.1.value) ≡ 0 = rw out refl in
    omega (
      arith,
      none,
      count-cons (λ x. lies_in row.0 (low_of rows) x.1.value) e es,
      in_rows-none rows e es rise.1 (below_next e.1.value row rows rise below),
    )

in_rows-once : (rows : Rows) (e : ℕ × NumHit) (es : Entries) → LowsRise rows → in_rows rows (e ∷ es) ≤ suc (in_rows rows es)
in_rows-once [] e es rise = omega arith
in_rows-once (row ∷ rows) e es rise = elim (cases_Bool (lies_in row.0 (low_of rows) e.1.value)) [
  | inl y ↦
      let below : is_below (low_of rows) e.1.value ≡ true = elim (cases_Bool (int_le row.0 e.1.value)) [ inl z ↦ rw z at y | inr n ↦ absurd (cc (rw n at y)) ] in
      let one : one_if (lies_in row.0 (low_of rows) e.1.value) ≡ 1 = rw y refl in
      omega (arith, one, count-cons (λ x. lies_in row.0 (low_of rows) x.1.value) e es, in_rows-none rows e es rise.1 below)
  | inr n ↦
      let none : one_if (lies_in row.0 (low_of rows) e.1.value) ≡ 0 = rw n refl in
      omega (arith, none, count-cons (λ x. lies_in row.0 (low_of rows) x.1.value) e es, in_rows-once rows e es rise.1)
]

in_rows-most : (rows : Rows) (es : Entries) → LowsRise rows → in_rows rows es ≤ length es
in_rows-most rows [] rise = in_rows-empty rows
  where
    in_rows-empty : (rows : Rows) → in_rows rows [] ≤ 0
    in_rows-empty [] = omega arith
    in_rows-empty (row ∷ rows) = omega (arith, in_rows-empty rows)
in_rows-most rows (e ∷ es) rise = omega (arith, in_rows-once rows e es rise, in_rows-most rows es rise)

-- rows without a dead entry part the live entries
live-parted : (live : List (ℕ × Vector)) (es : Entries) (rows : Rows) → LowsRise rows → RowsLive (has_id live) (Some rows) → AreParted es rows → AreParted (alive live es) rows
live-parted live es [] rise each parted = tt
live-parted live es (row ∷ rows) rise each parted = (
  sym (all_kept (has_id live) row.1.entries own)
      ∙ (ap (alive live) parted.0 ∙ filter-twice (λ (e : ℕ × NumHit). has_id live e.0) (λ (e : ℕ × NumHit). lies_in row.0 (low_of rows) e.1.value) es),
  live-parted live es rows rise.1 rest parted.1,
)
  where
    own : all_alive (has_id live) row.1.entries ≡ true
    own = rw (eq_same row.0) at (each row.0)

    rest : RowsLive (has_id live) (Some rows)
    rest low = elim (cases_Bool (int_eq low row.0)) [
      | inl y ↦
          let none : list_at rows low ≡ None = ap (list_at rows) (eq_true low row.0 y) ∙ list_none row.0 rows rise.1 (reach_below row.0 rows rise.0) in
          subst (λ (list : Option (Listing NumHit)). IfSome list (λ l. all_alive (has_id live) l.entries ≡ true)) (sym none) tt
      | inr n ↦ rw n at (each low)
    ]

slot-most : (def : IndexDef) (live : List (ℕ × Vector)) (docs : List Doc) (number : ℕ) (field : Field) (slot : Option Rows) → slice_get def.fields number ≡ Some field
    → NumbersHave def live number docs slot → RowsLive (has_id live) slot → entries_in_slot slot ≤ sum_by (λ doc. number_count doc field) docs
slot-most def live docs number field None at has each = omega arith
slot-most def live docs number field (Some rows) at has each =
    omega (
      arith,
      parted-count (alive live has.entries) rows (live-parted live has.entries rows has.partition.lows each has.parted),
      in_rows-most rows (alive live has.entries) has.partition.lows,
      ap length has.same,
      number-entries-count def number field docs at,
    )

-- a number without a field has no ranges
slot-beyond : (def : IndexDef) (live : List (ℕ × Vector)) (docs : List Doc) (number : ℕ) (slot : Option Rows) → slice_get def.fields number ≡ None → NumbersHave def live number docs slot → entries_in_slot slot ≡ 0
slot-beyond def live docs number None at has = refl
slot-beyond def live docs number (Some rows) at has = absurd (cc (sym (ap is_ranged at) ∙ has.ranged))

module _ {F : Type 0} where
  slots-most : (fields : List F) (ranges : List (Option Rows)) → ((i : ℕ) → length fields ≤ i → entries_in_slot (rows_of ranges i) ≡ 0)
      → entries_in_ranges ranges ≤ numbered fields (λ i. entries_in_slot (rows_of ranges i))
  slots-most fields [] beyond = omega arith
  slots-most [] (slot ∷ ranges) beyond =
      let own : entries_in_slot slot ≡ 0 = beyond 0 (omega arith) in
      omega (arith, own, slots-most [] ranges (λ i past. beyond (suc i) (omega arith)), sum_by-cons entries_in_slot slot ranges)
  slots-most (field ∷ fields) (slot ∷ ranges) beyond =
      omega (arith, slots-most fields ranges (λ i past. beyond (suc i) (omega (arith, past))), sum_by-cons entries_in_slot slot ranges)

numbers-most : (def : IndexDef) (live : List (ℕ × Vector)) (docs : List Doc) (ranges : List (Option Rows)) → RangesHaveAll def ranges live docs → RangesLive (has_id live) ranges
    → entries_in_ranges ranges ≤ sum_by (λ (doc : Doc). sum_by (number_count doc) def.fields) docs
numbers-most def live docs ranges has each =
    omega (
      arith,
      slots-most def.fields ranges (λ number past. slot-beyond def live docs number (rows_of ranges number) (get-beyond def.fields number past) (has number)),
      numbered-under def.fields (λ field. sum_by (λ doc. number_count doc field) docs) (λ number. entries_in_slot (rows_of ranges number))
          (λ number field at. slot-most def live docs number field (rows_of ranges number) at (has number) (each number)),
      sum-turned (λ field doc. number_count doc field) def.fields docs,
    )

-- Lists that stand for documents have an entry, at most, for each live record, where none is dead.
pub records-most : (def : IndexDef) (live : List (ℕ × Vector)) (docs : List Doc) (lists : AllLists) → WordsRise lists.words → FieldsRise lists.tags → ((field : ℕ) → TagsRise (tags_of lists.tags field))
    → Has def live lists docs → ListsLive (has_id live) lists → all_entries lists ≤ live_records def docs
records-most def live docs lists words fields tags has each =
    omega (
      arith,
      words-most def live docs lists.words words has.words each.words,
      tags-most def live docs lists.tags fields tags has.tags each.tags,
      numbers-most def live docs lists.ranges has.numbers each.ranges,
      sum-plus (λ (doc : Doc). word_count def doc + sum_by (tag_count doc) def.fields) (λ doc. sum_by (number_count doc) def.fields) docs,
      sum-plus (word_count def) (λ (doc : Doc). sum_by (tag_count doc) def.fields) docs,
    )
