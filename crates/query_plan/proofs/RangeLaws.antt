-- The numbers of an interval, in the ranges of a field and in a document.
use mir.Syntax.{w64}
use mir.Val.{SFits}
use Rattle.std.proofs.Common.{◌≡◌, ◌⊎◌, ℕ, ℤ, zero, suc, ◌<◌, ◌≤◌, Bool, true, false, ◌&&◌, ◌||◌, List, [], ◌∷◌, map, get_or, Option, Some, None, IsTrue, refl, sym, ap, ◌∙◌, inl, inr, arith}
use Rattle.std.specs.Prelude.{nat_eq, int_le, int_lt, negsuc, pos}
use Rattle.std.specs.List.{AllByRecursion, list_all, list_any, slice_get}
use Rattle.std.specs.Map.{keys_of}
use Rattle.std.proofs.lemmas.Bool.{cases_Bool, le-leb, and_parts, and_from, and_right, or_from, or_left, or_right, false_from_ne_true}
use Rattle.std.proofs.lemmas.Int.{ints}
use Rattle.std.proofs.lemmas.Option.{slice_get_within, get_or_from_slice_get}
use Rattle.ft_base.specs.Kinds.{is_numeric}
use Rattle.ft_base.specs.declared.definition.Field.{Field}
use Rattle.ft_base.specs.Docs.{Doc}
use Rattle.ft_base.specs.Hash.{get_field}
use Rattle.ft_base.proofs.AnyLaws.{any_filter_and}
use Rattle.ft_meaning.specs.Holds.{field_number, has_number, is_between}
use Rattle.ft_meaning.proofs.HoldsLaws.{value_number-none}
use Rattle.id_iters.specs.Entries.{lies_in, range_has, wanted}
use Rattle.id_iters.specs.Held.{entries_of}
use Rattle.id_iters.specs.Named.{lies_at}
use Rattle.ft_index.specs.Entries.{is_ranged, searched_number}
use Rattle.inverted_list.specs.Listing.{Listing}
use Rattle.numeric_ranges.specs.Ranges as ranges
use Rattle.numeric_ranges.specs.Ranges.{AreParted, EntriesLie, IsPartition, LowsRise, Rows, is_below, list_at, low_of}
use Rattle.numeric_ranges.specs.Values.{Entries}
use Rattle.numeric_ranges.proofs.ReachLaws.{list_here}
use Rattle.numeric_ranges.proofs.ValueLaws.{le_from_not_lt, le_trans}
use Rattle.posting_block.specs.declared.hits.NumHit.{NumHit}
use Rattle.query_plan.specs.Sought.{section_of}
use Rattle.query_plan.proofs.AnyLaws.{any_cong, any_none, any_or, or_and}
use Rattle.query_plan.proofs.WordLaws.{num_hit}

-- ---- the number of a document

pub number_in : (low high : ℤ) (doc : Doc) (field : Option Field) → wanted (lies_in low high) (num_hit (searched_number field doc)) ≡ has_number doc low high field
number_in low high doc None = refl
number_in low high doc (Some field) =
    elim (cases_Bool field.noindex) [
      | inl y ↦ rw y refl
      | inr n ↦ rw n (same (field_number doc field))
    ]
  where
    same : (n : Option ℤ) → wanted (lies_in low high) (num_hit n) ≡ is_between low high n
    same None = refl
    same (Some n) = refl

-- a field without ranges has no number that is looked for
pub unranged : (low high : ℤ) (doc : Doc) (field : Option Field) → is_ranged field ≡ false → has_number doc low high field ≡ false
unranged low high doc None none = refl
unranged low high doc (Some field) none =
    elim (cases_Bool field.noindex) [
      | inl y ↦ rw y refl
      | inr n ↦
          let other : is_numeric field.kind ≡ false = rw n at none in
          rw n (ap (is_between low high) (value_number-none field.kind (get_field doc.hash field.name) other))
    ]

-- ---- the ranges of an interval

-- of nothing there is no section
pub nothing_of : {X : Type 0} (from to : ℕ) → section_of {X = X} [] from to ≡ []
nothing_of zero zero = refl
nothing_of zero (suc to) = refl
nothing_of (suc from) zero = refl
nothing_of (suc from) (suc to) = refl

pub section_map : {X Y : Type 0} (f : X → Y) (xs : List X) (from to : ℕ) → section_of (map f xs) from to ≡ map f (section_of xs from to)
section_map f [] zero zero = refl
section_map f [] zero (suc to) = refl
section_map f [] (suc from) zero = refl
section_map f [] (suc from) (suc to) = refl
section_map f (x ∷ xs) zero zero = refl
section_map f (x ∷ xs) (suc from) zero = refl
section_map f (x ∷ xs) zero (suc to) = ap (λ rest. f x ∷ rest) (section_map f xs zero to)
section_map f (x ∷ xs) (suc from) (suc to) = section_map f xs from to

-- what no row outside of two places passes
any_within : (test : ℤ × Listing NumHit → Bool) (rows : Rows) (from to : ℕ)
    → ((k : ℕ) (row : ℤ × Listing NumHit) → slice_get rows k ≡ Some row → (k < from) ⊎ (to ≤ k) → test row ≡ false)
    → list_any test (section_of rows from to) ≡ list_any test rows
any_within test [] zero zero none = refl
any_within test [] (suc from) zero none = refl
any_within test [] zero (suc to) none = refl
any_within test [] (suc from) (suc to) none = refl
any_within test (row ∷ rows) zero zero none =
    sym (ap (λ b. b || list_any test rows) (none 0 row refl (inr (omega arith)))
    ∙ sym (any_within test rows 0 0 (λ k other at out. none (suc k) other at (inr (omega arith)))))
any_within test (row ∷ rows) (suc from) zero none =
    sym (ap (λ b. b || list_any test rows) (none 0 row refl (inr (omega arith)))
    ∙ sym (any_within test rows (suc from) 0 (λ k other at out. none (suc k) other at (inr (omega arith)))))
any_within test (row ∷ rows) zero (suc to) none =
    ap (λ b. test row || b) (any_within test rows 0 to (λ k other at out. none (suc k) other at (further k out)))
  where
    further : (k : ℕ) → (k < 0) ⊎ (to ≤ k) → (suc k < 0) ⊎ (suc to ≤ suc k)
    further k (inl h) = absurd (omega (arith, h))
    further k (inr h) = inr (omega (arith, h))
any_within test (row ∷ rows) (suc from) (suc to) none =
    any_within test rows from to (λ k other at out. none (suc k) other at (further k out))
    ∙ sym (ap (λ b. b || list_any test rows) (none 0 row refl (inl (omega arith))))
  where
    further : (k : ℕ) → (k < from) ⊎ (to ≤ k) → (suc k < suc from) ⊎ (suc to ≤ suc k)
    further k (inl h) = inl (omega (arith, h))
    further k (inr h) = inr (omega (arith, h))

-- tests that agree on the items that are there
any_there : {X : Type 0} (f g : X → Bool) (xs : List X) → ((k : ℕ) (x : X) → slice_get xs k ≡ Some x → f x ≡ g x) → list_any f xs ≡ list_any g xs
any_there f g [] same = refl
any_there f g (x ∷ xs) same = ap (λ b. b || list_any f xs) (same 0 x refl) ∙ ap (λ b. g x || b) (any_there f g xs (λ k y at. same (suc k) y at))

less_trans : (next : Option ℤ) (a b : ℤ) → int_lt a b ≡ true → is_below next b ≡ true → is_below next a ≡ true
less_trans None a b less below = refl
less_trans (Some bound) a b less below = grind (arith, ints)

-- a number before the next row is before all behind it
below_all : (rows : Rows) (v : ℤ) → LowsRise rows → is_below (low_of rows) v ≡ true → list_all (int_lt v) (keys_of rows) ≡ true
below_all [] v rise below = refl
below_all (row ∷ rows) v rise below =
    and_from (int_lt v row.0) (list_all (int_lt v) (keys_of rows)) below (below_all rows v rise.1 (less_trans (low_of rows) v row.0 below rise.0))

-- a row that a number lies in, or one behind it
rows_lie : Rows → ℤ → Bool
rows_lie [] v = false
rows_lie (row ∷ rows) v = ranges.lies_in row.0 (low_of rows) v || rows_lie rows v

covered : (row : ℤ × Listing NumHit) (rows : Rows) (v : ℤ) → int_le row.0 v ≡ true → rows_lie (row ∷ rows) v ≡ true
unfolding rows_lie
covered row [] v from = or_left (int_le row.0 v && true) false (and_from (int_le row.0 v) true from refl)
covered row (next ∷ rows) v from =
    elim (cases_Bool (int_lt v next.0)) [
      | inl y ↦ or_left (ranges.lies_in row.0 (Some next.0) v) (rows_lie (next ∷ rows) v) (and_from (int_le row.0 v) (int_lt v next.0) from y)
      | inr n ↦ or_right (ranges.lies_in row.0 (Some next.0) v) (rows_lie (next ∷ rows) v) (covered next rows v (le_from_not_lt v next.0 n))
    ]

-- the list of a row that is there
pub row_here : (rows : Rows) → LowsRise rows → (k : ℕ) (row : ℤ × Listing NumHit) → slice_get rows k ≡ Some row → list_at rows row.0 ≡ Some row.1
row_here rows rise k row at =
    let here : get_or rows k row ≡ row = get_or_from_slice_get rows k row row at in
    list_here row.0 rows k row rise (slice_get_within rows k row at) (ap (λ (r : ℤ × Listing NumHit). r.0) here)
    ∙ ap (λ (r : ℤ × Listing NumHit). Some r.1) here

module _ (low high : ℤ) (id : ℕ) where
  -- the entries of a row that no number of the interval lies in have none of its numbers
  row_none : (row : ℤ × Listing NumHit) (next : Option ℤ) (es : Entries) → AllByRecursion (λ e. IsTrue (ranges.lies_in row.0 next e.1.value)) es
      → ((v : ℤ) → ranges.lies_in row.0 next v ≡ true → int_le low v ≡ true → int_le v high ≡ true → ⊥) → range_has low high es id ≡ false
  row_none row next [] lie out = refl
  row_none row next (e ∷ es) lie out =
      or_from (nat_eq id e.0 && lies_in low high e.1) (range_has low high es id)
      (and_right (nat_eq id e.0) (lies_in low high e.1) (false_from_ne_true (lies_in low high e.1) (λ within.
      let ends = and_parts (int_le low e.1.value) (int_le e.1.value high) within in
      out e.1.value lie.0 ends.0 ends.1)))
      (row_none row next es lie.1 out)

  rows_none : (rows : Rows) (k : ℕ) (row : ℤ × Listing NumHit) → LowsRise rows → EntriesLie rows → slice_get rows k ≡ Some row
      → ((v : ℤ) → lies_at (keys_of rows) k v ≡ true → int_le low v ≡ true → int_le v high ≡ true → ⊥) → range_has low high row.1.entries id ≡ false
  rows_none [] k row rise lie at out = absurd (cc (at))
  rows_none (first ∷ rows) zero row rise lie at out =
      let same : first ≡ row = cc (at) in
      ap (λ (r : ℤ × Listing NumHit). range_has low high r.1.entries id) (sym same)
      ∙ row_none first (low_of rows) first.1.entries lie.0 (λ v here.
      let ends = and_parts (int_le first.0 v) (is_below (low_of rows) v) here in
      out v (and_from (int_le first.0 v) (list_all (int_lt v) (keys_of rows)) ends.0 (below_all rows v rise.1 ends.1)))
  rows_none (first ∷ rows) (suc k) row rise lie at out = rows_none rows k row rise.1 lie.1 at out

  parted_any : (es : Entries) (rows : Rows) → AreParted es rows
      → list_any (λ (row : ℤ × Listing NumHit). range_has low high row.1.entries id) rows
      ≡ list_any (λ e. rows_lie rows e.1.value && (nat_eq id e.0 && lies_in low high e.1)) es
  unfolding rows_lie
  parted_any es [] parts = sym (any_none es)
  parted_any es (row ∷ rows) parts =
      ap (λ b. b || list_any (λ (r : ℤ × Listing NumHit). range_has low high r.1.entries id) rows)
      (ap (λ (found : Entries). range_has low high found id) parts.0
      ∙ any_filter_and (λ e. nat_eq id e.0 && lies_in low high e.1) (λ e. ranges.lies_in row.0 (low_of rows) e.1.value) es)
      ∙ ap (λ b. list_any (λ e. ranges.lies_in row.0 (low_of rows) e.1.value && (nat_eq id e.0 && lies_in low high e.1)) es || b) (parted_any es rows parts.1)
      ∙ sym (any_or (λ e. ranges.lies_in row.0 (low_of rows) e.1.value && (nat_eq id e.0 && lies_in low high e.1))
      (λ e. rows_lie rows e.1.value && (nat_eq id e.0 && lies_in low high e.1)) es)
      ∙ any_cong _ _ es (λ e. sym (or_and (ranges.lies_in row.0 (low_of rows) e.1.value) (rows_lie rows e.1.value) (nat_eq id e.0 && lies_in low high e.1)))

  module _ (rows : Rows) (partition : IsPartition rows) (bound : int_le (negsuc 9223372036854775807) low ≡ true) where
    covers : (v : ℤ) → int_le low v ≡ true → rows_lie rows v ≡ true
    covers v above = first rows partition.first
      where
        first : (rs : Rows) → low_of rs ≡ Some (negsuc 9223372036854775807) → rows_lie rs v ≡ true
        first [] none = absurd (cc (none))
        first (row ∷ rs) is =
            let least : row.0 ≡ negsuc 9223372036854775807 = cc (is) in
            covered row rs v (ap (λ (n : ℤ). int_le n v) least ∙ le_trans (negsuc 9223372036854775807) low v bound above)

    rows_have : (es : Entries) → AreParted es rows → list_any (λ (row : ℤ × Listing NumHit). range_has low high row.1.entries id) rows ≡ range_has low high es id
    rows_have es parts =
        parted_any es rows parts
        ∙ any_cong _ (λ e. nat_eq id e.0 && lies_in low high e.1) es
        (λ e. absorbed (rows_lie rows e.1.value) (nat_eq id e.0) (int_le low e.1.value) (int_le e.1.value high) (covers e.1.value))
      where
        absorbed : (lie here from to : Bool) → (from ≡ true → lie ≡ true) → (lie && (here && (from && to))) ≡ (here && (from && to))
        absorbed true here from to h = refl
        absorbed false true true true h = h refl
        absorbed false true true false h = refl
        absorbed false true false to h = refl
        absorbed false false from to h = refl

    -- The ranges in which some number of the interval lies have the numbers that all entries have.
    pub ranges_have : (es : Entries) (from to : ℕ) → AreParted es rows
        → ((place : ℕ) (number : ℤ) → int_le low number ≡ true → int_le number high ≡ true → lies_at (keys_of rows) place number ≡ true → (from ≤ place) × (place < to))
        → list_any (λ (row : ℤ × Listing NumHit). range_has low high (entries_of (list_at rows row.0)) id) (section_of rows from to) ≡ range_has low high es id
    ranges_have es from to parts met =
        any_within (λ (row : ℤ × Listing NumHit). range_has low high (entries_of (list_at rows row.0)) id) rows from to
        (λ k row at out. own k row at ∙ rows_none rows k row partition.lows partition.lie at (λ v lies above below. never k out (met k v above below lies)))
        ∙ any_there _ (λ (row : ℤ × Listing NumHit). range_has low high row.1.entries id) rows own
        ∙ rows_have es parts
      where
        own : (k : ℕ) (row : ℤ × Listing NumHit) → slice_get rows k ≡ Some row → range_has low high (entries_of (list_at rows row.0)) id ≡ range_has low high row.1.entries id
        own k row at = ap (λ (list : Option (Listing NumHit)). range_has low high (entries_of list) id) (row_here rows partition.lows k row at)

        never : (k : ℕ) → (k < from) ⊎ (to ≤ k) → (from ≤ k) × (k < to) → ⊥
        never k (inl h) both = omega (arith, h, both.0)
        never k (inr h) both = omega (arith, h, both.1)

-- no number of 64 bits is below the least
pub above_least : (n : ℤ) → SFits w64 n → int_le (negsuc 9223372036854775807) n ≡ true
above_least (pos n) fits = refl
above_least (negsuc n) fits = le-leb n 9223372036854775807 (omega (arith, fits.sfits))

-- nor is one above the greatest
pub below_greatest : (n : ℤ) → SFits w64 n → int_le n (pos 9223372036854775807) ≡ true
below_greatest (pos n) fits = le-leb n 9223372036854775807 (omega (arith, fits.sfits))
below_greatest (negsuc n) fits = refl
