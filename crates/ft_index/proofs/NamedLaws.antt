-- The lists of an index under their names: each is the list of its name, none is left out, and the names rise.
use Rattle.std.specs.Prelude.{◌≡◌, ◌<◌, ℕ, suc, ◌+◌, ℤ, List, [], ◌∷◌, ◌++◌, map, Bool, true, false, Option, None, Some, IfSome, int_lt, refl}
use Rattle.std.proofs.Common.{sym, ap, subst, ◌∙◌, inl, inr, arith}
use Rattle.std.specs.Cmp.Lexicographic.{bytes_decides}
use Rattle.std.specs.List.{AllByRecursion, Contains}
use Rattle.std.specs.List.Sorted.{IsStrictlySortedBy}
use Rattle.std.specs.Map.{keys_of, lookup}
use Rattle.std.specs.Option.{option_map}
use Rattle.std.specs.Ordering.{int_cmp, int_eq, nat_cmp}
use Rattle.std.specs.declared.cmp.Ordering.{Ordering}
use Rattle.std.specs.declared.cmp.Ordering.TheVariants.{Less}
use Rattle.std.specs.Str.{bytes_eq}
use Rattle.std.proofs.lemmas.Bool.{cases_Bool}
use Rattle.std.proofs.lemmas.Bool.Decides.{nat_tests}
use Rattle.std.proofs.lemmas.Int.{ints}
use Rattle.std.proofs.lemmas.List.Elements.{Contains-append_right}
use Rattle.id_iters.specs.declared.list_name.ListName.{ListName}
use Rattle.id_iters.specs.declared.list_name.ListName.TheVariants as names
use Rattle.inverted_list.specs.Names.{word_cmp}
use Rattle.numeric_ranges.proofs.ReachLaws.{below_next}
use Rattle.numeric_ranges.proofs.ValueLaws.{eq_same}
use Rattle.numeric_ranges.specs.Ranges.{LowsRise, Rows, is_below, low_of}
use Rattle.posting_block.specs.declared.hits.TextHit.{TextHit}
use Rattle.term_dict.specs.Tags.{tags_of}
use Rattle.term_dict.specs.Terms.{Lists, WordsRise}
use Rattle.ft_index.specs.Lists.{AllLists, list_from, rows_of}
use Rattle.ft_index.specs.Picturing.{AreOrdered, all_named, field_named, fields_named, slot_named, slots_named, words_named}
use Rattle.ft_index.specs.Snapshots.{AnyListing, RangeList, TagList, WordList, list_at}

module _ {A : Type 0} where
  pub all-weaker : (P Q : A → Type 0) → ((x : A) → P x → Q x) → (xs : List A) → AllByRecursion P xs → AllByRecursion Q xs
  all-weaker P Q so [] each = tt
  all-weaker P Q so (x ∷ xs) each = (so x each.0, all-weaker P Q so xs each.1)

  pub all-append : (P : A → Type 0) (xs ys : List A) → AllByRecursion P xs → AllByRecursion P ys → AllByRecursion P (xs ++ ys)
  all-append P [] ys first each = each
  all-append P (x ∷ xs) ys first each = (first.0, all-append P xs ys first.1 each)

  pub all-any : (P : A → Type 0) → ((x : A) → P x) → (xs : List A) → AllByRecursion P xs
  all-any P any [] = tt
  all-any P any (x ∷ xs) = (any x, all-any P any xs)

module _ {A B : Type 0} (f : A → B) where
  pub all-map : (P : B → Type 0) (Q : A → Type 0) → ((x : A) → Q x → P (f x)) → (xs : List A) → AllByRecursion Q xs → AllByRecursion P (map f xs)
  all-map P Q so [] each = tt
  all-map P Q so (x ∷ xs) each = (so x each.0, all-map P Q so xs each.1)

  pub all-unmap : (P : B → Type 0) (Q : A → Type 0) → ((x : A) → P (f x) → Q x) → (xs : List A) → AllByRecursion P (map f xs) → AllByRecursion Q xs
  all-unmap P Q so [] each = tt
  all-unmap P Q so (x ∷ xs) each = (so x each.0, all-unmap P Q so xs each.1)

-- ---- rows by a key that rises

module _ {K X : Type 0} (eq : K → K → Bool) (c : K → K → Ordering) (same : (a : K) → eq a a ≡ true) (apart : (a b : K) → c a b ≡ Less → eq b a ≡ false) where
  -- a row behind the first is found as before
  own-behind : (first : K × X) (whole rows : List (K × X)) → AllByRecursion (λ k. c first.0 k ≡ Less) (keys_of rows)
      → AllByRecursion (λ row. lookup (eq row.0) whole ≡ Some row.1) rows → AllByRecursion (λ row. lookup (eq row.0) (first ∷ whole) ≡ Some row.1) rows
  own-behind first whole [] below each = tt
  own-behind first whole (row ∷ rows) below each = (rw (apart first.0 row.0 below.0) each.0, own-behind first whole rows below.1 each.1)

  -- each row is the one of its key
  pub own-rows : (rows : List (K × X)) → IsStrictlySortedBy c (keys_of rows) → AllByRecursion (λ row. lookup (eq row.0) rows ≡ Some row.1) rows
  unfolding IsStrictlySortedBy
  own-rows [] rise = tt
  own-rows (row ∷ rows) rise = (rw (same row.0) refl, own-behind row rows rows rise.0 (own-rows rows rise.1))

module _ {K X : Type 0} (eq : K → K → Bool) (one : (a b : K) → eq a b ≡ true → a ≡ b) (name : K → ListName) (list : X → AnyListing) where
  -- a key with a row is among the names
  pub key-among : (rows : List (K × X)) (k : K) (x : X) → lookup (eq k) rows ≡ Some x → Contains (keys_of (map (λ row. (name row.0, list row.1)) rows)) (name k)
  key-among [] k x is = absurd (cc (is))
  key-among (row ∷ rows) k x is = elim (cases_Bool (eq k row.0)) [
    | inl y ↦ (0, omega arith, ap name (sym (one k row.0 y)))
    | inr n ↦ Contains-append_right (name row.0 ∷ []) (keys_of (map (λ row. (name row.0, list row.1)) rows)) (name k) (key-among rows k x (rw n at is))
  ]

bytes-same : (a : List ℕ) → bytes_eq a a ≡ true
bytes-same a = (bytes_decides a a).1 refl

pub bytes-one : (a b : List ℕ) → bytes_eq a b ≡ true → a ≡ b
bytes-one a b y = (bytes_decides a b).0 y

word-irreflexive : (a : List ℕ) → word_cmp a a ≡ Less → ⊥
word-irreflexive [] less = cc (less)
word-irreflexive (x ∷ a) less = word-irreflexive a (rw (here x) at less)
  where
    here : (x : ℕ) → nat_cmp x x ≡ nat_cmp 0 0
    here x = grind (arith, nat_tests)

bytes-apart : (a b : List ℕ) → word_cmp a b ≡ Less → bytes_eq b a ≡ false
bytes-apart a b less = elim (cases_Bool (bytes_eq b a)) [
  | inl y ↦ absurd (word-irreflexive a (subst (λ (w : List ℕ). word_cmp a w ≡ Less) (bytes-one b a y) less))
  | inr n ↦ n
]

int-apart : (a b : ℤ) → int_cmp a b ≡ Less → int_eq b a ≡ false
int-apart a b less = grind (arith, ints)

int-less : (a b : ℤ) → int_lt a b ≡ true → int_cmp a b ≡ Less
int-less a b less = rw less refl

pub nat-less : (a b : ℕ) → nat_cmp a b ≡ Less → a < b
nat-less a b less = grind (arith, nat_tests)

-- ---- the lows of a field's ranges

lows-above : (low : ℤ) (rows : Rows) → LowsRise rows → is_below (low_of rows) low ≡ true → AllByRecursion (λ k. int_cmp low k ≡ Less) (keys_of rows)
lows-above low [] rise below = tt
lows-above low (row ∷ rows) rise below = (int-less low row.0 below, lows-above low rows rise.1 (below_next low row rows rise below))

pub lows-sorted : (rows : Rows) → LowsRise rows → IsStrictlySortedBy int_cmp (keys_of rows)
unfolding IsStrictlySortedBy
lows-sorted [] rise = tt
lows-sorted (row ∷ rows) rise = (lows-above row.0 rows rise.1 rise.0, lows-sorted rows rise.1)

-- ---- each is the list of its name

-- a name's list stands with it
abbrev pub IsOwn : AllLists → ListName × AnyListing → Type 0
IsOwn lists named = list_at lists named.0 ≡ Some named.1

module _ (lists : AllLists) where
  words-own : (words : Lists TextHit) → lists.words ≡ words → WordsRise words → AllByRecursion (IsOwn lists) (words_named words)
  words-own words is rise =
      all-map (λ row. (names.Word row.0, WordList row.1)) (IsOwn lists) (λ row. lookup (bytes_eq row.0) words ≡ Some row.1)
      (λ row own. ap (option_map WordList) (ap (lookup (bytes_eq row.0)) is ∙ own)) words (own-rows bytes_eq word_cmp bytes-same bytes-apart words rise)

  field-own : (field : ℕ) → WordsRise (tags_of lists.tags field) → AllByRecursion (IsOwn lists) (field_named field (tags_of lists.tags field))
  field-own field rise =
      all-map (λ row. (names.Tag field row.0, TagList row.1)) (IsOwn lists) (λ row. lookup (bytes_eq row.0) (tags_of lists.tags field) ≡ Some row.1)
      (λ row own. ap (option_map TagList) own) (tags_of lists.tags field) (own-rows bytes_eq word_cmp bytes-same bytes-apart (tags_of lists.tags field) rise)

  fields-own : (fields : List ℕ) → ((field : ℕ) → WordsRise (tags_of lists.tags field)) → AllByRecursion (IsOwn lists) (fields_named lists.tags fields)
  fields-own [] rise = tt
  fields-own (field ∷ fields) rise = all-append (IsOwn lists) (field_named field (tags_of lists.tags field)) (fields_named lists.tags fields) (field-own field (rise field)) (fields-own fields rise)

  slot-own : (field : ℕ) (slot : Option Rows) → rows_of lists.ranges field ≡ slot → IfSome slot LowsRise → AllByRecursion (IsOwn lists) (slot_named field slot)
  slot-own field None is rise = tt
  slot-own field (Some rows) is rise =
      all-map (λ row. (names.Range field row.0, RangeList row.1)) (IsOwn lists) (λ row. lookup (int_eq row.0) rows ≡ Some row.1)
      (λ row own. ap (λ slot. option_map RangeList (list_from slot row.0)) is ∙ ap (option_map RangeList) own) rows (own-rows int_eq int_cmp eq_same int-apart rows (lows-sorted rows rise))

  slots-own : (field : ℕ) (slots : List (Option Rows)) → ((n : ℕ) → rows_of lists.ranges (field + n) ≡ rows_of slots n) → ((n : ℕ) → IfSome (rows_of slots n) LowsRise)
      → AllByRecursion (IsOwn lists) (slots_named field slots)
  slots-own field [] is rise = tt
  slots-own field (slot ∷ slots) is rise =
      let here : rows_of lists.ranges field ≡ slot = ap (rows_of lists.ranges) (omega arith) ∙ is 0 in
      all-append (IsOwn lists) (slot_named field slot) (slots_named (field + 1) slots) (slot-own field slot here (rise 0))
      (slots-own (field + 1) slots (λ n. ap (rows_of lists.ranges) (omega arith) ∙ is (suc n)) (λ n. rise (suc n)))

  pub all-own : AreOrdered lists → AllByRecursion (IsOwn lists) (all_named lists)
  all-own ordered =
      all-append (IsOwn lists) (words_named lists.words) (fields_named lists.tags (keys_of lists.tags) ++ slots_named 0 lists.ranges) (words-own lists.words refl ordered.words)
      (all-append (IsOwn lists) (fields_named lists.tags (keys_of lists.tags)) (slots_named 0 lists.ranges) (fields-own (keys_of lists.tags) ordered.tags)
      (slots-own 0 lists.ranges (λ n. ap (rows_of lists.ranges) (omega arith)) ordered.ranges))
