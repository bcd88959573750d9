-- The names of an index's lists rise, and none is left out.
use Rattle.std.specs.Prelude.{◌≡◌, ◌<◌, ℕ, suc, zero, ◌+◌, ℤ, List, [], ◌∷◌, ◌++◌, map, Option, None, Some, IfSome, IsSome, nat_eq, refl}
use Rattle.std.proofs.Common.{sym, subst, inl, inr, arith}
use Rattle.std.specs.List.{AllByRecursion, Contains}
use Rattle.std.specs.List.Sorted.{IsStrictlySortedBy}
use Rattle.std.specs.Map.{keys_of}
use Rattle.std.specs.Option.{option_map}
use Rattle.std.specs.Ordering.{int_cmp, int_eq, nat_cmp}
use Rattle.std.specs.declared.cmp.Ordering.{Ordering}
use Rattle.std.specs.declared.cmp.Ordering.TheVariants.{Less}
use Rattle.std.specs.Str.{bytes_eq}
use Rattle.std.proofs.lemmas.Bool.{cases_Bool, eqb-true}
use Rattle.std.proofs.lemmas.Bool.Decides.{nat_tests}
use Rattle.std.proofs.lemmas.List.{map-append}
use Rattle.std.proofs.lemmas.List.Elements.{Contains-append_left, Contains-append_right}
use Rattle.id_iters.specs.declared.list_name.ListName.{ListName}
use Rattle.id_iters.specs.declared.list_name.ListName.TheVariants as names
use Rattle.inverted_list.specs.Listing.{Listing}
use Rattle.inverted_list.specs.Names.{word_cmp}
use Rattle.numeric_ranges.proofs.ValueLaws.{eq_true}
use Rattle.numeric_ranges.specs.Ranges.{LowsRise, Rows, list_at}
use Rattle.posting_block.specs.declared.hits.TagHit.{TagHit}
use Rattle.posting_block.specs.declared.hits.TextHit.{TextHit}
use Rattle.term_dict.specs.Tags.{FieldTags, tags_of}
use Rattle.term_dict.specs.Terms.{Lists, WordsRise, list_of}
use Rattle.ft_index.specs.Lists.{AllLists, list_from, rows_of}
use Rattle.ft_index.specs.Picturing.{AreOrdered, NamedLists, all_named, field_named, fields_named, rows_named, slot_named, slots_named, words_named}
use Rattle.ft_index.specs.Snapshots.{AnyListing, NamesRise, RangeList, TagList, WordList, name_cmp}
use Rattle.ft_index.specs.Snapshots as snapshots
use Rattle.ft_index.proofs.NamedLaws.{all-append, all-weaker, bytes-one, key-among, lows-sorted}

-- ---- the names rise

-- names behind a name
abbrev pub AreBehind : ListName → NamedLists → Type 0
AreBehind name all = AllByRecursion (λ (e : ListName × AnyListing). name_cmp name e.0 ≡ Less) all

-- names behind each of others
abbrev pub AllBehind : NamedLists → NamedLists → Type 0
AllBehind front back = AllByRecursion (λ (e : ListName × AnyListing). AreBehind e.0 back) front

keys-behind : (name : ListName) (front back : NamedLists) → AllByRecursion (λ k. name_cmp name k ≡ Less) (keys_of front) → AreBehind name back
    → AllByRecursion (λ k. name_cmp name k ≡ Less) (keys_of (front ++ back))
keys-behind name [] [] first behind = tt
keys-behind name [] (e ∷ back) first behind = (behind.0, keys-behind name [] back tt behind.1)
keys-behind name (e ∷ front) back first behind = (first.0, keys-behind name front back first.1 behind)

pub rise-append : (front back : NamedLists) → NamesRise (keys_of front) → NamesRise (keys_of back) → AllBehind front back → NamesRise (keys_of (front ++ back))
unfolding IsStrictlySortedBy
rise-append [] back first last behind = last
rise-append (e ∷ front) back first last behind = (keys-behind e.0 front back first.0 behind.0, rise-append front back first.1 last behind.1)

-- names that are made of keys rise as these do
module _ {K X : Type 0} (c : K → K → Ordering) (name : K → ListName) (list : X → AnyListing) (less : (a b : K) → c a b ≡ Less → name_cmp (name a) (name b) ≡ Less) where
  keys-mapped : (k : K) (rows : List (K × X)) → AllByRecursion (λ other. c k other ≡ Less) (keys_of rows)
      → AllByRecursion (λ other. name_cmp (name k) other ≡ Less) (keys_of (map (λ row. (name row.0, list row.1)) rows))
  keys-mapped k [] below = tt
  keys-mapped k (row ∷ rows) below = (less k row.0 below.0, keys-mapped k rows below.1)

  rise-mapped : (rows : List (K × X)) → IsStrictlySortedBy c (keys_of rows) → NamesRise (keys_of (map (λ row. (name row.0, list row.1)) rows))
  unfolding IsStrictlySortedBy
  rise-mapped [] rise = tt
  rise-mapped (row ∷ rows) rise = (keys-mapped row.0 rows rise.0, rise-mapped rows rise.1)

nat-same : (n : ℕ) → nat_cmp n n ≡ nat_cmp 0 0
nat-same n = grind (arith, nat_tests)

tag-less : (field : ℕ) (a b : List ℕ) → word_cmp a b ≡ Less → name_cmp (names.Tag field a) (names.Tag field b) ≡ Less
tag-less field a b less = rw (nat-same field) less

range-less : (field : ℕ) (a b : ℤ) → int_cmp a b ≡ Less → name_cmp (names.Range field a) (names.Range field b) ≡ Less
range-less field a b less = rw (nat-same field) less

-- ---- one kind behind another

-- a name of a later field's tag, or of a range
abbrev pub IsPastTags : ℕ → ListName → Type 0
IsPastTags field name = (text : List ℕ) → name_cmp (names.Tag field text) name ≡ Less

abbrev pub IsPastRanges : ℕ → ListName → Type 0
IsPastRanges field name = (low : ℤ) → name_cmp (names.Range field low) name ≡ Less

abbrev pub IsPastWords : ListName → Type 0
IsPastWords name = (text : List ℕ) → name_cmp (names.Word text) name ≡ Less

field-past_words : (field : ℕ) (tags : Lists TagHit) → AllByRecursion (λ (e : ListName × AnyListing). IsPastWords e.0) (field_named field tags)
field-past_words field [] = tt
field-past_words field (row ∷ tags) = (λ text. refl, field-past_words field tags)

fields-past_words : (tags : FieldTags) (fields : List ℕ) → AllByRecursion (λ (e : ListName × AnyListing). IsPastWords e.0) (fields_named tags fields)
fields-past_words tags [] = tt
fields-past_words tags (field ∷ fields) =
    all-append (λ (e : ListName × AnyListing). IsPastWords e.0) (field_named field (tags_of tags field)) (fields_named tags fields) (field-past_words field (tags_of tags field)) (fields-past_words tags fields)

-- ranges are behind words and tags
abbrev pub IsRange : ListName → Type 0
IsRange name = IsPastWords name × ((field : ℕ) → IsPastTags field name)

rows-ranges : (field : ℕ) (rows : Rows) → AllByRecursion (λ (e : ListName × AnyListing). IsRange e.0) (rows_named field rows)
rows-ranges field [] = tt
rows-ranges field (row ∷ rows) = ((λ text. refl, λ other text. refl), rows-ranges field rows)

slot-ranges : (field : ℕ) (slot : Option Rows) → AllByRecursion (λ (e : ListName × AnyListing). IsRange e.0) (slot_named field slot)
slot-ranges field None = tt
slot-ranges field (Some rows) = rows-ranges field rows

slots-ranges : (field : ℕ) (slots : List (Option Rows)) → AllByRecursion (λ (e : ListName × AnyListing). IsRange e.0) (slots_named field slots)
slots-ranges field [] = tt
slots-ranges field (slot ∷ slots) =
    all-append (λ (e : ListName × AnyListing). IsRange e.0) (slot_named field slot) (slots_named (field + 1) slots) (slot-ranges field slot) (slots-ranges (field + 1) slots)

-- tags of later fields are behind a field's
field-past : (field other : ℕ) (tags : Lists TagHit) → nat_cmp field other ≡ Less → AllByRecursion (λ (e : ListName × AnyListing). IsPastTags field e.0) (field_named other tags)
field-past field other [] less = tt
field-past field other (row ∷ tags) less = (λ text. rw less refl, field-past field other tags less)

fields-past : (field : ℕ) (tags : FieldTags) (fields : List ℕ) → AllByRecursion (λ other. nat_cmp field other ≡ Less) fields
    → AllByRecursion (λ (e : ListName × AnyListing). IsPastTags field e.0) (fields_named tags fields)
fields-past field tags [] less = tt
fields-past field tags (other ∷ fields) less =
    all-append (λ (e : ListName × AnyListing). IsPastTags field e.0) (field_named other (tags_of tags other)) (fields_named tags fields)
    (field-past field other (tags_of tags other) less.0) (fields-past field tags fields less.1)

-- ranges of later fields are behind a field's
rows-past : (field other : ℕ) (rows : Rows) → field < other → AllByRecursion (λ (e : ListName × AnyListing). IsPastRanges field e.0) (rows_named other rows)
rows-past field other [] below = tt
rows-past field other (row ∷ rows) below =
    let less : nat_cmp field other ≡ Less = grind (arith, nat_tests, below) in (λ low. rw less refl, rows-past field other rows below)

slot-past : (field other : ℕ) (slot : Option Rows) → field < other → AllByRecursion (λ (e : ListName × AnyListing). IsPastRanges field e.0) (slot_named other slot)
slot-past field other None below = tt
slot-past field other (Some rows) below = rows-past field other rows below

slots-past : (field other : ℕ) (slots : List (Option Rows)) → field < other → AllByRecursion (λ (e : ListName × AnyListing). IsPastRanges field e.0) (slots_named other slots)
slots-past field other [] below = tt
slots-past field other (slot ∷ slots) below =
    all-append (λ (e : ListName × AnyListing). IsPastRanges field e.0) (slot_named other slot) (slots_named (other + 1) slots) (slot-past field other slot below) (slots-past field (other + 1) slots (omega (arith, below)))

words-behind : (words : Lists TextHit) (back : NamedLists) → AllByRecursion (λ (e : ListName × AnyListing). IsPastWords e.0) back → AllBehind (words_named words) back
words-behind [] back past = tt
words-behind (row ∷ words) back past =
    (all-weaker (λ (e : ListName × AnyListing). IsPastWords e.0) (λ (e : ListName × AnyListing). name_cmp (names.Word row.0) e.0 ≡ Less) (λ e all. all row.0) back past, words-behind words back past)

field-behind : (field : ℕ) (tags : Lists TagHit) (back : NamedLists) → AllByRecursion (λ (e : ListName × AnyListing). IsPastTags field e.0) back → AllBehind (field_named field tags) back
field-behind field [] back past = tt
field-behind field (row ∷ tags) back past =
    (all-weaker (λ (e : ListName × AnyListing). IsPastTags field e.0) (λ (e : ListName × AnyListing). name_cmp (names.Tag field row.0) e.0 ≡ Less) (λ e all. all row.0) back past, field-behind field tags back past)

rows-behind : (field : ℕ) (rows : Rows) (back : NamedLists) → AllByRecursion (λ (e : ListName × AnyListing). IsPastRanges field e.0) back → AllBehind (rows_named field rows) back
rows-behind field [] back past = tt
rows-behind field (row ∷ rows) back past =
    (all-weaker (λ (e : ListName × AnyListing). IsPastRanges field e.0) (λ (e : ListName × AnyListing). name_cmp (names.Range field row.0) e.0 ≡ Less) (λ e all. all row.0) back past, rows-behind field rows back past)

slot-behind : (field : ℕ) (slot : Option Rows) (back : NamedLists) → AllByRecursion (λ (e : ListName × AnyListing). IsPastRanges field e.0) back → AllBehind (slot_named field slot) back
slot-behind field None back past = tt
slot-behind field (Some rows) back past = rows-behind field rows back past

fields-behind : (tags : FieldTags) (fields : List ℕ) (back : NamedLists) → AllByRecursion (λ (e : ListName × AnyListing). IsRange e.0) back → AllBehind (fields_named tags fields) back
fields-behind tags [] back past = tt
fields-behind tags (field ∷ fields) back past =
    all-append (λ (e : ListName × AnyListing). AreBehind e.0 back) (field_named field (tags_of tags field)) (fields_named tags fields)
    (field-behind field (tags_of tags field) back (all-weaker (λ (e : ListName × AnyListing). IsRange e.0) (λ (e : ListName × AnyListing). IsPastTags field e.0) (λ e all. all.1 field) back past))
    (fields-behind tags fields back past)

-- ---- kind by kind

words-rise : (words : Lists TextHit) → WordsRise words → NamesRise (keys_of (words_named words))
words-rise words rise = rise-mapped word_cmp (λ text. names.Word text) WordList (λ a b less. less) words rise

field-rise : (field : ℕ) (tags : Lists TagHit) → WordsRise tags → NamesRise (keys_of (field_named field tags))
field-rise field tags rise = rise-mapped word_cmp (λ text. names.Tag field text) TagList (tag-less field) tags rise

fields-rise : (tags : FieldTags) (fields : List ℕ) → IsStrictlySortedBy nat_cmp fields → ((field : ℕ) → WordsRise (tags_of tags field)) → NamesRise (keys_of (fields_named tags fields))
unfolding IsStrictlySortedBy
fields-rise tags [] rise each = tt
fields-rise tags (field ∷ fields) rise each =
    rise-append (field_named field (tags_of tags field)) (fields_named tags fields) (field-rise field (tags_of tags field) (each field)) (fields-rise tags fields rise.1 each)
    (field-behind field (tags_of tags field) (fields_named tags fields) (fields-past field tags fields rise.0))

slot-rise : (field : ℕ) (slot : Option Rows) → IfSome slot LowsRise → NamesRise (keys_of (slot_named field slot))
unfolding IsStrictlySortedBy
slot-rise field None rise = tt
slot-rise field (Some rows) rise = rise-mapped int_cmp (λ low. names.Range field low) RangeList (range-less field) rows (lows-sorted rows rise)

slots-rise : (field : ℕ) (slots : List (Option Rows)) → ((n : ℕ) → IfSome (rows_of slots n) LowsRise) → NamesRise (keys_of (slots_named field slots))
unfolding IsStrictlySortedBy
slots-rise field [] rise = tt
slots-rise field (slot ∷ slots) rise =
    rise-append (slot_named field slot) (slots_named (field + 1) slots) (slot-rise field slot (rise 0)) (slots-rise (field + 1) slots (λ n. rise (suc n)))
    (slot-behind field slot (slots_named (field + 1) slots) (slots-past field (field + 1) slots (omega arith)))

module _ (lists : AllLists) where
  pub all-rise : AreOrdered lists → NamesRise (keys_of (all_named lists))
  all-rise ordered =
      let tags = fields_named lists.tags (keys_of lists.tags) in
      let ranges = slots_named 0 lists.ranges in
      let past : AllByRecursion (λ (e : ListName × AnyListing). IsRange e.0) ranges = slots-ranges 0 lists.ranges in
      rise-append (words_named lists.words) (tags ++ ranges) (words-rise lists.words ordered.words)
      (rise-append tags ranges (fields-rise lists.tags (keys_of lists.tags) ordered.fields ordered.tags) (slots-rise 0 lists.ranges ordered.ranges)
      (fields-behind lists.tags (keys_of lists.tags) ranges past))
      (words-behind lists.words (tags ++ ranges) (all-append (λ (e : ListName × AnyListing). IsPastWords e.0) tags ranges (fields-past_words lists.tags (keys_of lists.tags))
      (all-weaker (λ (e : ListName × AnyListing). IsRange e.0) (λ (e : ListName × AnyListing). IsPastWords e.0) (λ e is. is.0) ranges past)))

-- ---- none is left out

keys-append : (front back : NamedLists) → keys_of (front ++ back) ≡ keys_of front ++ keys_of back
keys-append front back = map-append (λ (e : ListName × AnyListing). e.0) front back

among-left : (front back : NamedLists) (name : ListName) → Contains (keys_of front) name → Contains (keys_of (front ++ back)) name
among-left front back name has = subst (λ ks. Contains ks name) (sym (keys-append front back)) (Contains-append_left (keys_of front) (keys_of back) name has)

among-right : (front back : NamedLists) (name : ListName) → Contains (keys_of back) name → Contains (keys_of (front ++ back)) name
among-right front back name has = subst (λ ks. Contains ks name) (sym (keys-append front back)) (Contains-append_right (keys_of front) (keys_of back) name has)

some-mapped : {X Y : Type 0} (f : X → Y) (found : Option X) → IsSome (option_map f found) → (x : X) × (found ≡ Some x)
some-mapped f None is = absurd (cc (is))
some-mapped f (Some x) is = (x, refl)

word-among : (words : Lists TextHit) (text : List ℕ) → IsSome (option_map WordList (list_of words text)) → Contains (keys_of (words_named words)) (names.Word text)
word-among words text is =
    let (l, there) = some-mapped WordList (list_of words text) is in
    key-among bytes_eq bytes-one (λ word. names.Word word) WordList words text l there

field-among : (field : ℕ) (tags : Lists TagHit) (text : List ℕ) → IsSome (option_map TagList (list_of tags text)) → Contains (keys_of (field_named field tags)) (names.Tag field text)
field-among field tags text is =
    let (l, there) = some-mapped TagList (list_of tags text) is in
    key-among bytes_eq bytes-one (λ tag. names.Tag field tag) TagList tags text l there

-- a field with a tag is one of those that are there
field-there : (tags : FieldTags) (field : ℕ) (text : List ℕ) (l : Listing TagHit) → list_of (tags_of tags field) text ≡ Some l → Contains (keys_of tags) field
field-there [] field text l is = absurd (cc (is))
field-there (row ∷ tags) field text l is = elim (cases_Bool (nat_eq field row.0)) [
  | inl y ↦ (0, omega arith, sym (eqb-true field row.0 y))
  | inr n ↦ Contains-append_right (row.0 ∷ []) (keys_of tags) field (field-there tags field text l (rw n at is))
]

fields-among : (tags : FieldTags) (fields : List ℕ) (field : ℕ) (name : ListName) → Contains fields field → Contains (keys_of (field_named field (tags_of tags field))) name
    → Contains (keys_of (fields_named tags fields)) name
fields-among tags [] field name (k, within, here) has = absurd (omega (arith, within))
fields-among tags (first ∷ fields) field name (zero, within, here) has =
    among-left (field_named first (tags_of tags first)) (fields_named tags fields) name (subst (λ (n : ℕ). Contains (keys_of (field_named n (tags_of tags n))) name) (sym here) has)
fields-among tags (first ∷ fields) field name (suc k, within, here) has =
    among-right (field_named first (tags_of tags first)) (fields_named tags fields) name (fields-among tags fields field name (k, omega (arith, within), here) has)

tag-among : (tags : FieldTags) (field : ℕ) (text : List ℕ) → IsSome (option_map TagList (list_of (tags_of tags field) text)) → Contains (keys_of (fields_named tags (keys_of tags))) (names.Tag field text)
tag-among tags field text is =
    let (l, there) = some-mapped TagList (list_of (tags_of tags field) text) is in
    fields-among tags (keys_of tags) field (names.Tag field text) (field-there tags field text l there) (field-among field (tags_of tags field) text is)

slot-among : (field : ℕ) (slot : Option Rows) (low : ℤ) → IsSome (option_map RangeList (list_from slot low)) → Contains (keys_of (slot_named field slot)) (names.Range field low)
slot-among field None low is = absurd (cc (is))
slot-among field (Some rows) low is =
    let (l, there) = some-mapped RangeList (list_at rows low) is in
    key-among int_eq eq_true (λ bound. names.Range field bound) RangeList rows low l there

slots-among : (first : ℕ) (slots : List (Option Rows)) (n : ℕ) (low : ℤ) → IsSome (option_map RangeList (list_from (rows_of slots n) low))
    → Contains (keys_of (slots_named first slots)) (names.Range (first + n) low)
slots-among first [] zero low is = absurd (cc (is))
slots-among first [] (suc n) low is = absurd (cc (is))
slots-among first (slot ∷ slots) zero low is =
    let one : first + 0 ≡ first = omega arith in
    subst (λ (m : ℕ). Contains (keys_of (slots_named first (slot ∷ slots))) (names.Range m low)) (sym one)
    (among-left (slot_named first slot) (slots_named (first + 1) slots) (names.Range first low) (slot-among first slot low is))
slots-among first (slot ∷ slots) (suc n) low is =
    let one : first + suc n ≡ first + 1 + n = omega arith in
    subst (λ (m : ℕ). Contains (keys_of (slots_named first (slot ∷ slots))) (names.Range m low)) (sym one)
    (among-right (slot_named first slot) (slots_named (first + 1) slots) (names.Range (first + 1 + n) low) (slots-among (first + 1) slots n low is))

module _ (lists : AllLists) where
  pub all-among : (name : ListName) → IsSome (snapshots.list_at lists name) → Contains (keys_of (all_named lists)) name
  all-among (names.Word text) is =
      among-left (words_named lists.words) (fields_named lists.tags (keys_of lists.tags) ++ slots_named 0 lists.ranges) (names.Word text) (word-among lists.words text is)
  all-among (names.Tag field text) is =
      among-right (words_named lists.words) (fields_named lists.tags (keys_of lists.tags) ++ slots_named 0 lists.ranges) (names.Tag field text)
      (among-left (fields_named lists.tags (keys_of lists.tags)) (slots_named 0 lists.ranges) (names.Tag field text) (tag-among lists.tags field text is))
  all-among (names.Range field low) is =
      among-right (words_named lists.words) (fields_named lists.tags (keys_of lists.tags) ++ slots_named 0 lists.ranges) (names.Range field low)
      (among-right (fields_named lists.tags (keys_of lists.tags)) (slots_named 0 lists.ranges) (names.Range field low)
      (subst (λ (n : ℕ). Contains (keys_of (slots_named 0 lists.ranges)) (names.Range n low)) (omega arith) (slots-among 0 lists.ranges field low is)))
