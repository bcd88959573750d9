-- What is asked of the ranges of an interval.
use Rattle.std.proofs.Common.{◌≡◌, ℕ, ℤ, zero, suc, ◌≤◌, ◌+◌, Bool, true, ◌&&◌, ◌||◌, List, [], ◌∷◌, ◌++◌, add-one, map, Option, Some, None, IsTrue, refl, sym, ap, ◌∙◌, inl, inr, arith}
use Rattle.std.specs.Prelude.{nat_eq, int_le, int_lt, negsuc, pos}
use Rattle.std.specs.List.{AllByRecursion, list_any, slice_get}
use Rattle.std.specs.Map.{keys_of}
use Rattle.std.specs.Option.{unwrap_or}
use Rattle.std.proofs.lemmas.Bool.{cases_Bool, and_parts}
use Rattle.std.proofs.lemmas.Int.{ints}
use Rattle.ft_base.proofs.AnyLaws.{any_map}
use Rattle.id_iters.specs.Entries.{lies_in, range_has}
use Rattle.id_iters.specs.Held.{Held, entries_of}
use Rattle.inverted_list.specs.Listing.{Listing}
use Rattle.numeric_ranges.specs.Ranges as ranges
use Rattle.numeric_ranges.specs.Ranges.{EntriesLie, Rows, is_below, low_of}
use Rattle.numeric_ranges.specs.Values.{Entries}
use Rattle.numeric_ranges.proofs.ValueLaws.{le_trans}
use Rattle.posting_block.specs.declared.hits.NumHit.{NumHit}
use Rattle.query_plan.specs.Asked.{asked_of, asked_of_each, lies_whole}
use Rattle.query_plan.specs.Sought.{section_of}
use Rattle.query_plan.proofs.RangeLaws.{section_map}

-- ---- from place to place

pub section_none : {X : Type 0} (xs : List X) (at : ℕ) → section_of xs at at ≡ []
section_none [] zero = refl
section_none [] (suc at) = refl
section_none (x ∷ xs) zero = refl
section_none (x ∷ xs) (suc at) = section_none xs at

section_further : {X : Type 0} (xs : List X) (from at : ℕ) (x : X) → from ≤ at → slice_get xs at ≡ Some x
    → section_of xs from (suc at) ≡ section_of xs from at ++ x ∷ []
section_further [] from at x within is = absurd (cc (is))
section_further (y ∷ xs) zero zero x within is =
    let same : y ≡ x = cc (is) in
    ap (λ z. z ∷ []) same
section_further (y ∷ xs) (suc from) zero x within is = absurd (omega (arith, within))
section_further (y ∷ xs) zero (suc at) x within is = ap (λ rest. y ∷ rest) (section_further xs zero at x (omega arith) is)
section_further (y ∷ xs) (suc from) (suc at) x within is = section_further xs from at x (omega (arith, within)) is

section_over : {X : Type 0} (xs : List X) (from at : ℕ) → slice_get xs at ≡ None → section_of xs from (suc at) ≡ section_of xs from at
section_over [] zero zero none = refl
section_over [] zero (suc at) none = refl
section_over [] (suc from) zero none = refl
section_over [] (suc from) (suc at) none = refl
section_over (x ∷ xs) from zero none = absurd (cc (none))
section_over (x ∷ xs) zero (suc at) none = ap (λ rest. x ∷ rest) (section_over xs zero at none)
section_over (x ∷ xs) (suc from) (suc at) none = section_over xs from at none

module _ (held : Held) (field : ℕ) (low high : ℤ) where
  asked_at : (lows : List ℤ) (at : ℕ) (least : ℤ) → slice_get lows at ≡ Some least
      → slice_get (asked_of_each held field low high lows) at ≡ Some (asked_of low high least (slice_get lows (suc at)) (entries_of (held.ranges field least)))
  asked_at [] at least is = absurd (cc (is))
  asked_at (n ∷ lows) zero least is =
      let same : n ≡ least = cc (is) in
      ap (λ (m : ℤ). Some (asked_of low high m (slice_get lows 0) (entries_of (held.ranges field m)))) same
  asked_at (n ∷ lows) (suc at) least is = asked_at lows at least is

  none_at : (lows : List ℤ) (at : ℕ) → slice_get lows at ≡ None → slice_get (asked_of_each held field low high lows) at ≡ None
  none_at [] at none = refl
  none_at (n ∷ lows) zero none = absurd (cc (none))
  none_at (n ∷ lows) (suc at) none = none_at lows at none

  pub asked_more : (lows : List ℤ) (from at : ℕ) (least : ℤ) (next : Option ℤ) → from ≤ at → slice_get lows at ≡ Some least → next ≡ slice_get lows (at + 1)
      → section_of (asked_of_each held field low high lows) from (at + 1)
      ≡ section_of (asked_of_each held field low high lows) from at ++ asked_of low high least next (entries_of (held.ranges field least)) ∷ []
  asked_more lows from at least next within is behind =
      let same : slice_get lows (suc at) ≡ next = sym (behind ∙ ap (slice_get lows) (add-one at)) in
      ap (section_of (asked_of_each held field low high lows) from) (add-one at)
      ∙ section_further (asked_of_each held field low high lows) from at _ within (asked_at lows at least is)
      ∙ ap (λ (n : Option ℤ). section_of (asked_of_each held field low high lows) from at ++ asked_of low high least n (entries_of (held.ranges field least)) ∷ []) same

  -- the same where the ends are known by equations
  pub section_as : (lows : List ℤ) (from to : ℕ) (l h : ℤ) → l ≡ low → h ≡ high
      → section_of (asked_of_each held field l h lows) from to ≡ section_of (asked_of_each held field low high lows) from to
  section_as lows from to l h is_low is_high =
      ap (λ (n : ℤ). section_of (asked_of_each held field n h lows) from to) is_low
      ∙ ap (λ (n : ℤ). section_of (asked_of_each held field low n lows) from to) is_high

  -- behind the last range there is none
  pub asked_ended : (lows : List ℤ) (from at : ℕ) → slice_get lows at ≡ None
      → section_of (asked_of_each held field low high lows) from (at + 1) ≡ section_of (asked_of_each held field low high lows) from at
  asked_ended lows from at none =
      ap (section_of (asked_of_each held field low high lows) from) (add-one at) ∙ section_over (asked_of_each held field low high lows) from at (none_at lows at none)

-- ---- ranges that lie whole within

same_from_le : (a b : ℤ) → int_le a b ≡ true → int_le b a ≡ true → a ≡ b
same_from_le a b h g = omega (arith, ints, h, g)

below_le : (v n high : ℤ) → int_lt v n ≡ true → int_le n high ≡ true → int_le v high ≡ true
below_le v n high h g = grind (arith, ints)

module _ (held : Held) (field : ℕ) (low high : ℤ) (bound : int_le (negsuc 9223372036854775807) low ≡ true) (top : int_le high (pos 9223372036854775807) ≡ true) where
  -- a number of a range that lies whole within is from `low` to `high` where it has 64 bits
  upper_same : (next : Option ℤ) (v : ℤ) → int_le (unwrap_or next (pos 9223372036854775807)) high ≡ true → is_below next v ≡ true
      → int_le v (pos 9223372036854775807) ≡ int_le v high
  upper_same None v ends below = ap (int_le v) (same_from_le (pos 9223372036854775807) high ends top)
  upper_same (Some n) v ends below =
      let within = below_le v n high below ends in
      le_trans v high (pos 9223372036854775807) within top ∙ sym within

  number_same : (least : ℤ) (next : Option ℤ) (v : ℤ) → lies_whole low high least next ≡ true → ranges.lies_in least next v ≡ true
      → (int_le (negsuc 9223372036854775807) v && int_le v (pos 9223372036854775807)) ≡ (int_le low v && int_le v high)
  number_same least next v whole lies =
      let ends = and_parts (int_le low least) (int_le (unwrap_or next (pos 9223372036854775807)) high) whole in
      let here = and_parts (int_le least v) (is_below next v) lies in
      let above = le_trans low least v ends.0 here.0 in
      ap (λ b. b && int_le v (pos 9223372036854775807)) (le_trans (negsuc 9223372036854775807) low v bound above)
      ∙ upper_same next v ends.1 here.1
      ∙ sym (ap (λ b. b && int_le v high) above)

  entries_same : (least : ℤ) (next : Option ℤ) (es : Entries) (id : ℕ) → lies_whole low high least next ≡ true
      → AllByRecursion (λ e. IsTrue (ranges.lies_in least next e.1.value)) es
      → range_has (negsuc 9223372036854775807) (pos 9223372036854775807) es id ≡ range_has low high es id
  entries_same least next [] id whole lie = refl
  entries_same least next (e ∷ es) id whole lie =
      ap (λ b. (nat_eq id e.0 && b) || range_has (negsuc 9223372036854775807) (pos 9223372036854775807) es id) (number_same least next e.1.value whole lie.0)
      ∙ ap (λ b. (nat_eq id e.0 && lies_in low high e.1) || b) (entries_same least next es id whole lie.1)

  asked_same : (least : ℤ) (next : Option ℤ) (es : Entries) (id : ℕ) → AllByRecursion (λ e. IsTrue (ranges.lies_in least next e.1.value)) es
      → asked_of low high least next es id ≡ range_has low high es id
  asked_same least next es id lie =
      elim (cases_Bool (lies_whole low high least next)) [
        | inl y ↦ rw y (entries_same least next es id y lie)
        | inr n ↦ rw n refl
      ]

  next_low : (rows : Rows) → slice_get (keys_of rows) 0 ≡ low_of rows
  next_low [] = refl
  next_low (row ∷ rows) = refl

  -- what a range has of the interval
  abbrev row_has : ℕ → ℤ × Listing NumHit → Bool
  row_has id row = range_has low high (entries_of (held.ranges field row.0)) id

  each_same : (rows : Rows) (id : ℕ) → EntriesLie rows → ((k : ℕ) (row : ℤ × Listing NumHit) → slice_get rows k ≡ Some row → held.ranges field row.0 ≡ Some row.1)
      → map (λ (set : ℕ → Bool). set id) (asked_of_each held field low high (keys_of rows)) ≡ map (row_has id) rows
  each_same [] id lie own = refl
  each_same (row ∷ rows) id lie own =
      ap (λ b. b ∷ map (λ (set : ℕ → Bool). set id) (asked_of_each held field low high (keys_of rows)))
      (ap (λ (next : Option ℤ). asked_of low high row.0 next (entries_of (held.ranges field row.0)) id) (next_low rows)
      ∙ ap (λ (list : Option (Listing NumHit)). asked_of low high row.0 (low_of rows) (entries_of list) id) (own 0 row refl)
      ∙ asked_same row.0 (low_of rows) row.1.entries id lie.0
      ∙ sym (ap (λ (list : Option (Listing NumHit)). range_has low high (entries_of list) id) (own 0 row refl)))
      ∙ ap (λ rest. row_has id row ∷ rest) (each_same rows id lie.1 (λ k other at. own (suc k) other at))

  -- The ids asked of ranges are those that have a number of the interval.
  pub asked_any : (rows : Rows) (id from to : ℕ) → EntriesLie rows → ((k : ℕ) (row : ℤ × Listing NumHit) → slice_get rows k ≡ Some row → held.ranges field row.0 ≡ Some row.1)
      → list_any (λ (set : ℕ → Bool). set id) (section_of (asked_of_each held field low high (keys_of rows)) from to)
      ≡ list_any (λ (row : ℤ × Listing NumHit). range_has low high (entries_of (held.ranges field row.0)) id) (section_of rows from to)
  asked_any rows id from to lie own =
      sym (any_map (λ b. b) (λ (set : ℕ → Bool). set id) (section_of (asked_of_each held field low high (keys_of rows)) from to))
      ∙ ap (list_any (λ b. b))
      (sym (section_map (λ (set : ℕ → Bool). set id) (asked_of_each held field low high (keys_of rows)) from to)
      ∙ ap (λ (bs : List Bool). section_of bs from to) (each_same rows id lie own)
      ∙ section_map (row_has id) rows from to)
      ∙ any_map (λ b. b) (row_has id) (section_of rows from to)
