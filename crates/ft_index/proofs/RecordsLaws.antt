-- The lists of an index have an entry for each live record.
use Rattle.std.proofs.Common.{◌≡◌, ℕ, suc, ◌+◌, ◌<◌, ◌≤◌, false, true, cond, ℤ, List, [], ◌∷◌, ◌++◌, map, drop, length, length-append, slice_index_or, refl, ap, sym, subst, inl, inr, ◌∙◌, arith, Option, None, Some, is_some}
use Rattle.std.specs.Prelude.{int_le, int_lt, slice_get}
use Rattle.std.proofs.lemmas.Bool.{cases_Bool}
use Rattle.std.proofs.lemmas.List.{drop_more, map-append}
use Rattle.std.proofs.lemmas.List.Sums.{count_by-le-length, length-filter, sum_by-cons}
use Rattle.std.specs.List.{AllByRecursion, count_by, flat_map, list_any, sum_by}
use Rattle.std.specs.Set.{distinct_count}
use Rattle.std.specs.Str.{bytes_eq}
use Rattle.ft_base.specs.Hash.{get_field}
use Rattle.ft_base.specs.declared.definition.Field.{Field}
use Rattle.ft_base.specs.declared.definition.FieldKind.{FieldKind}
use Rattle.ft_base.specs.declared.definition.FieldKind.TheVariants as kinds
use Rattle.doc_table.specs.Table.{Vector}
use Rattle.ft_base.specs.declared.definition.IndexDef.{IndexDef}
use Rattle.ft_base.specs.Docs.{Doc}
use Rattle.ft_base.specs.Kinds.{is_numeric}
use Rattle.ft_meaning.specs.Holds.{value_tags}
use Rattle.ft_meaning.specs.Meaning.{field_tokens}
use Rattle.ft_meaning.specs.Records.{live_records, number_count, tag_count, word_count, words_of}
use Rattle.ft_meaning.proofs.HoldsLaws.{value_number-none}
use Rattle.numeric_ranges.specs.Ranges.{AreParted, Rows, entries_in_rows, lies_in, low_of}
use Rattle.numeric_ranges.specs.Values.{Entries}
use Rattle.numeric_ranges.proofs.ValueLaws.{le_from_not_lt}
use Rattle.posting_block.specs.declared.hits.NumHit.{NumHit}
use Rattle.posting_block.specs.declared.hits.TextHit.{TextHit}
use Rattle.term_dict.specs.Tags.{FieldTags, entries_in, entries_in_fields, tags_of}
use Rattle.term_dict.specs.Terms.{Lists, entries_in_all, entries_of}
use Rattle.token_text.specs.declared.token.Token.{Token}
use Rattle.ft_index.specs.Adding.{RangesHaveAll, TagsHave, WordsHave}
use Rattle.ft_index.specs.Entries.{codes_among, entry, has_tag, is_ranged, number_entries, occurrence, occurrences, occurrences_from, searched_number, searched_tags, tag_entries, word_entries}
use Rattle.ft_index.specs.Has.{Has, NumbersHave, alive}
use Rattle.ft_index.specs.Lists.{AllLists, has_id, rows_of}
use Rattle.ft_index.specs.Records.{all_entries, entries_in_ranges, entries_in_slot}
use Rattle.ft_index.specs.Tagging.{AreApart}
use Rattle.ft_index.proofs.CountLaws.{count-cons, distinct-apart, having, named, named-entered, numbered, numbered-over, numbered-tags, one_if, sum-le, sum-none, sum-plus, sum-turned}
use Rattle.ft_index.proofs.NumberLaws.{entries-fit}
use Rattle.ft_index.proofs.PartedLaws.{fits, least}
use Rattle.ft_index.proofs.TagLaws.{tags-apart}

-- one field's ranges more are counted
pub counted-next : (ranges : List (Option Rows)) (k : ℕ) (slot : Option Rows) (total n : ℕ) → k < length ranges → slice_index_or ranges k slot ≡ slot → n ≡ entries_in_slot slot
    → total + entries_in_ranges (drop k ranges) ≡ entries_in_ranges ranges → total + n + entries_in_ranges (drop (k + 1) ranges) ≡ entries_in_ranges ranges
counted-next ranges k slot total n within here is counted =
    let front : drop k ranges ≡ slot ∷ drop (k + 1) ranges = drop_more ranges k slot within ∙ ap (λ (first : Option Rows). first ∷ drop (k + 1) ranges) here in
    omega (arith, is, counted, ap entries_in_ranges front, sum_by-cons entries_in_slot slot (drop (k + 1) ranges))

alive-most : {P : Type 0} (live : List (ℕ × Vector)) (es : List (ℕ × P)) → length (alive live es) ≤ length es
alive-most live es = omega (arith, length-filter (λ (e : ℕ × _). has_id live e.0) es, count_by-le-length (λ (e : ℕ × _). has_id live e.0) es)

-- the words of occurrences
abbrev words_in : List (List ℕ × ℕ) → List (List ℕ)
words_in found = map (λ (one : List ℕ × ℕ). one.0) found

abbrev words_among : List Token → List (List ℕ)
words_among found = map (λ (token : Token). token.word) found

-- the occurrences of a field are its words in their order
field-words : (number : ℕ) (found : List Token) → words_in (map (occurrence number) found) ≡ words_among found
field-words number [] = refl
field-words number (token ∷ found) = ap (λ rest. token.word ∷ rest) (field-words number found)

-- those of a document are its words, field by field
occurrence-words : (def : IndexDef) (doc : Doc) (number : ℕ) (fields : List Field) → words_in (occurrences_from def doc number fields) ≡ words_among (flat_map (field_tokens def doc) fields)
occurrence-words def doc number [] = refl
occurrence-words def doc number (field ∷ fields) =
    let here = field_tokens def doc field in
    map-append _ (map (occurrence number) here) (occurrences_from def doc (suc number) fields)
    ∙ (ap (λ words. words ++ words_in (occurrences_from def doc (suc number) fields)) (field-words number here)
    ∙ (ap (λ words. words_among here ++ words) (occurrence-words def doc (suc number) fields)
    ∙ sym (map-append _ here (flat_map (field_tokens def doc) fields))))

-- a document has one entry of a word that it has
entry-count : (id : ℕ) (word : List ℕ) (found : List (List ℕ × ℕ)) → length (entry id (codes_among word found)) ≡ cond (list_any (bytes_eq word) (words_in found)) 1 0
entry-count id word [] = refl
entry-count id word (one ∷ found) = elim (cases_Bool (bytes_eq word one.0)) [
  | inl y ↦ rw y refl
  | inr n ↦ rw n (entry-count id word found)
]

pub word-count : (def : IndexDef) (word : List ℕ) (docs : List Doc) → length (word_entries def word docs) ≡ having (words_of def) word docs
word-count def word [] = refl
word-count def word (doc ∷ docs) =
    omega (
      arith,
      length-append (entry doc.id (codes_among word (occurrences def doc))) (word_entries def word docs),
      entry-count doc.id word (occurrences def doc),
      ap (λ words. one_if (list_any (bytes_eq word) words)) (occurrence-words def doc 0 def.fields),
      word-count def word docs,
      count-cons (λ (d : Doc). list_any (bytes_eq word) (words_of def d)) doc docs,
    )

-- the lists of words have an entry for each word of each document
words-least : (def : IndexDef) (live : List (ℕ × Vector)) (docs : List Doc) (words : Lists TextHit) → WordsHave def words live docs → sum_by (word_count def) docs ≤ entries_in_all words
words-least def live docs words has =
    named-entered words (words_of def) docs (λ word. omega (arith, ap length (has word), word-count def word docs, alive-most live (entries_of words word)))

value-apart : (kind : FieldKind) (value : Option (List ℕ)) → AreApart (value_tags kind value)
value-apart (kinds.Tag separator case) (Some value) = tags-apart value separator case
value-apart (kinds.Tag separator case) None = tt
value-apart kinds.Text value = tt
value-apart kinds.Numeric value = tt

pub searched-apart : (field : Field) (doc : Doc) → AreApart (searched_tags (Some field) doc)
searched-apart field doc = elim (cases_Bool field.noindex) [
  | inl y ↦ rw y tt
  | inr n ↦ rw n (value-apart field.kind (get_field doc.hash field.name))
]

-- a field's tags are those by which it is searched
pub tags-searched : (doc : Doc) (field : Field) → tag_count doc field ≡ length (searched_tags (Some field) doc)
tags-searched doc field = elim (cases_Bool field.noindex) [
  | inl y ↦ rw y refl
  | inr n ↦ rw n refl
]

pub tag-entries-count : (def : IndexDef) (number : ℕ) (tag : List ℕ) (docs : List Doc) → length (tag_entries def number tag docs) ≡ count_by (has_tag def number tag) docs
tag-entries-count def number tag [] = refl
tag-entries-count def number tag (doc ∷ docs) = elim (cases_Bool (has_tag def number tag doc)) [
  | inl y ↦
      let one : one_if (has_tag def number tag doc) ≡ 1 = rw y refl in
      let more : length (tag_entries def number tag (doc ∷ docs)) ≡ suc (length (tag_entries def number tag docs)) = rw y refl in
      omega (arith, one, more, tag-entries-count def number tag docs, count-cons (has_tag def number tag) doc docs)
  | inr n ↦
      let none : one_if (has_tag def number tag doc) ≡ 0 = rw n refl in
      let same : length (tag_entries def number tag (doc ∷ docs)) ≡ length (tag_entries def number tag docs) = rw n refl in
      omega (arith, none, same, tag-entries-count def number tag docs, count-cons (has_tag def number tag) doc docs)
]

-- the lists of a field's tags have an entry for each tag of each document
field-least : (def : IndexDef) (live : List (ℕ × Vector)) (docs : List Doc) (tags : FieldTags) → TagsHave def tags live docs → (number : ℕ) (field : Field) → slice_get def.fields number ≡ Some field
    → sum_by (λ doc. tag_count doc field) docs ≤ entries_in_all (tags_of tags number)
field-least def live docs tags has number field at =
    let names : Doc → List (List ℕ) = λ doc. searched_tags (slice_get def.fields number) doc in
    let counted : (tag : List ℕ) → having names tag docs ≤ length (entries_in tags number tag) =
    λ tag. omega (arith, ap length (has number tag), tag-entries-count def number tag docs, alive-most live (entries_in tags number tag)) in
    let entered : named (λ (doc : Doc). searched_tags (Some field) doc) docs ≤ entries_in_all (tags_of tags number) =
    subst (λ (o : Option Field). named (λ (doc : Doc). searched_tags o doc) docs ≤ entries_in_all (tags_of tags number)) at (named-entered (tags_of tags number) names docs counted) in
    let all = sum-le (λ (doc : Doc). tag_count doc field) (λ (doc : Doc). distinct_count bytes_eq (searched_tags (Some field) doc)) (λ doc. omega (arith, tags-searched doc field, ap length (sym (distinct-apart (searched_tags (Some field) doc) (searched-apart field doc))))) docs in
    omega (arith, all, entered)

tags-least : (def : IndexDef) (live : List (ℕ × Vector)) (docs : List Doc) (tags : FieldTags) → TagsHave def tags live docs
    → sum_by (λ (doc : Doc). sum_by (tag_count doc) def.fields) docs ≤ entries_in_fields tags
tags-least def live docs tags has =
    omega (
      arith,
      sum-turned tag_count docs def.fields,
      numbered-over def.fields (λ field. sum_by (λ doc. tag_count doc field) docs) (λ number. entries_in_all (tags_of tags number)) (field-least def live docs tags has),
      numbered-tags def.fields tags (λ number. entries_in_all (tags_of tags number)) (λ number. omega arith),
    )

-- how many of some entries lie in rows, counted once for each row
abbrev pub in_rows : Rows → Entries → ℕ
in_rows [] es = 0
in_rows (row ∷ rows) es = count_by (λ e. lies_in row.0 (low_of rows) e.1.value) es + in_rows rows es

pub parted-count : (es : Entries) (rows : Rows) → AreParted es rows → entries_in_rows rows ≡ in_rows rows es
parted-count es [] parted = refl
parted-count es (row ∷ rows) parted =
    omega (arith, sum_by-cons (λ (r : ℤ × _). length r.1.entries) row rows, ap length parted.0, length-filter (λ e. lies_in row.0 (low_of rows) e.1.value) es, parted-count es rows parted.1)

in_rows-more : (rows : Rows) (e : ℕ × NumHit) (es : Entries) → in_rows rows es ≤ in_rows rows (e ∷ es)
in_rows-more [] e es = omega arith
in_rows-more (row ∷ rows) e es = omega (arith, count-cons (λ x. lies_in row.0 (low_of rows) x.1.value) e es, in_rows-more rows e es)

-- an entry from the first low on lies in some row
in_rows-one : (row : ℤ × _) (rows : Rows) (e : ℕ × NumHit) (es : Entries) → int_le row.0 e.1.value ≡ true → suc (in_rows (row ∷ rows) es) ≤ in_rows (row ∷ rows) (e ∷ es)
in_rows-one row [] e es above =
    let one : one_if (lies_in row.0 None e.1.value) ≡ 1 = rw above refl in
    omega (arith, one, count-cons (λ x. lies_in row.0 None x.1.value) e es)
in_rows-one row (next ∷ rows) e es above = elim (cases_Bool (int_lt e.1.value next.0)) [
  | inl y ↦
      let one : one_if (lies_in row.0 (Some next.0) e.1.value) ≡ 1 = rw (above, y) refl in
      omega (arith, one, count-cons (λ x. lies_in row.0 (Some next.0) x.1.value) e es, in_rows-more (next ∷ rows) e es)
  | inr n ↦
      omega (arith, count-cons (λ x. lies_in row.0 (Some next.0) x.1.value) e es, in_rows-one next rows e es (le_from_not_lt e.1.value next.0 n))
]

live-in_rows : (live : List (ℕ × Vector)) (row : ℤ × _) (rows : Rows) (es : Entries) → AllByRecursion (λ e. int_le row.0 e.1.value ≡ true) (alive live es)
    → length (alive live es) ≤ in_rows (row ∷ rows) es
live-in_rows live row rows [] above = omega arith
live-in_rows live row rows (e ∷ es) above = elim (cases_Bool (has_id live e.0)) [
  | inl y ↦
      let both : AllByRecursion (λ (x : ℕ × NumHit). int_le row.0 x.1.value ≡ true) (e ∷ alive live es) = rw y at above in
      rw y (omega (arith, in_rows-one row rows e es both.0, live-in_rows live row rows es both.1))
  | inr n ↦
      let rest : AllByRecursion (λ (x : ℕ × NumHit). int_le row.0 x.1.value ≡ true) (alive live es) = rw n at above in
      rw n (omega (arith, in_rows-more (row ∷ rows) e es, live-in_rows live row rows es rest))
]

-- rows that part entries have the live ones of these, whose numbers are of 64 bits
parted-least : (live : List (ℕ × Vector)) (es : Entries) (rows : Rows) → low_of rows ≡ Some least → AreParted es rows → AllByRecursion (λ e. fits e ≡ true) (alive live es)
    → length (alive live es) ≤ entries_in_rows rows
parted-least live es [] first parted fit = absurd (cc (first))
parted-least live es (row ∷ rows) first parted fit =
    let low : row.0 ≡ least = cc (first) in
    let above = subst (λ (n : ℤ). AllByRecursion (λ (e : ℕ × NumHit). int_le n e.1.value ≡ true) (alive live es)) (sym low) fit in
    omega (arith, parted-count es (row ∷ rows) parted, live-in_rows live row rows es above)

-- a field's number is the one by which it is searched
number-searched : (doc : Doc) (field : Field) → number_count doc field ≡ one_if (is_some (searched_number (Some field) doc))
number-searched doc field = elim (cases_Bool field.noindex) [
  | inl y ↦ rw y refl
  | inr n ↦ rw n refl
]

pub number-entries-count : (def : IndexDef) (number : ℕ) (field : Field) (docs : List Doc) → slice_get def.fields number ≡ Some field
    → length (number_entries def number docs) ≡ sum_by (λ doc. number_count doc field) docs
number-entries-count def number field [] at = refl
number-entries-count def number field (doc ∷ docs) at =
    omega (arith, by_value (searched_number (Some field) doc) refl, number-searched doc field, number-entries-count def number field docs at, sum_by-cons (λ (d : Doc). number_count d field) doc docs)
  where
    by_value : (value : Option ℤ) → searched_number (Some field) doc ≡ value
        → length (number_entries def number (doc ∷ docs)) ≡ one_if (is_some (searched_number (Some field) doc)) + length (number_entries def number docs)
    by_value None is = rw (at, is) (omega arith)
    by_value (Some value) is = rw (at, is) (omega arith)

-- a field without ranges has no number
no-number : (field : Field) (doc : Doc) → is_ranged (Some field) ≡ false → number_count doc field ≡ 0
no-number field doc away = elim (cases_Bool field.noindex) [
  | inl y ↦ rw y refl
  | inr n ↦
      let kind : is_numeric field.kind ≡ false = rw n at away in
      rw (n, value_number-none field.kind (get_field doc.hash field.name) kind) refl
]

-- the ranges of a field have an entry for each document that has a number there
slot-least : (def : IndexDef) (live : List (ℕ × Vector)) (docs : List Doc) (number : ℕ) (field : Field) (slot : Option Rows) → slice_get def.fields number ≡ Some field
    → NumbersHave def live number docs slot → sum_by (λ doc. number_count doc field) docs ≤ entries_in_slot slot
slot-least def live docs number field None at has =
    omega (arith, sum-none (λ (doc : Doc). number_count doc field) (λ doc. no-number field doc (ap is_ranged (sym at) ∙ has)) docs)
slot-least def live docs number field (Some rows) at has =
    let fit = subst (AllByRecursion (λ (e : ℕ × NumHit). fits e ≡ true)) (sym has.same) (entries-fit def number docs) in
    omega (arith, number-entries-count def number field docs at, ap length has.same, parted-least live has.entries rows has.partition.first has.parted fit)

-- the ranges of the fields by number are all of them
numbered-ranges : {F : Type 0} (fields : List F) (ranges : List (Option Rows)) → numbered fields (λ number. entries_in_slot (rows_of ranges number)) ≤ entries_in_ranges ranges
numbered-ranges [] ranges = omega arith
numbered-ranges (field ∷ fields) [] = omega (arith, numbered-ranges fields [])
numbered-ranges (field ∷ fields) (slot ∷ ranges) = omega (arith, numbered-ranges fields ranges, sum_by-cons entries_in_slot slot ranges)

numbers-least : (def : IndexDef) (live : List (ℕ × Vector)) (docs : List Doc) (ranges : List (Option Rows)) → RangesHaveAll def ranges live docs
    → sum_by (λ (doc : Doc). sum_by (number_count doc) def.fields) docs ≤ entries_in_ranges ranges
numbers-least def live docs ranges has =
    omega (
      arith,
      sum-turned number_count docs def.fields,
      numbered-over def.fields (λ field. sum_by (λ doc. number_count doc field) docs) (λ number. entries_in_slot (rows_of ranges number))
          (λ number field at. slot-least def live docs number field (rows_of ranges number) at (has number)),
      numbered-ranges def.fields ranges,
    )

-- Lists that stand for documents have an entry, at least, for each live record.
pub records-least : (def : IndexDef) (live : List (ℕ × Vector)) (docs : List Doc) (lists : AllLists) → Has def live lists docs → live_records def docs ≤ all_entries lists
records-least def live docs lists has =
    omega (
      arith,
      words-least def live docs lists.words has.words,
      tags-least def live docs lists.tags has.tags,
      numbers-least def live docs lists.ranges has.numbers,
      sum-plus (λ (doc : Doc). word_count def doc + sum_by (tag_count doc) def.fields) (λ doc. sum_by (number_count doc) def.fields) docs,
      sum-plus (word_count def) (λ (doc : Doc). sum_by (tag_count doc) def.fields) docs,
    )
