-- How many entries rows have once an entry came, or a list was put in the place of another.
use Rattle.std.proofs.Common.{◌≡◌, ℕ, ◌+◌, not, cond, [], ◌∷◌, ◌++◌, length, length-append, Some, inl, inr, refl, sym, ap, ◌∙◌, arith, ℤ}
use Rattle.std.specs.Prelude.{int_le, int_lt}
use Rattle.std.specs.Map.{set_value}
use Rattle.std.specs.Ordering.{int_eq}
use Rattle.std.proofs.lemmas.Bool.{cases_Bool}
use Rattle.std.proofs.lemmas.List.Filters.{length-filter_both}
use Rattle.std.proofs.lemmas.List.Sums.{sum_by-append, sum_by-cons}
use Rattle.posting_block.specs.declared.hits.NumHit.{NumHit}
use Rattle.inverted_list.specs.declared.marker.Markers.{Markers}
use Rattle.inverted_list.specs.Listing.{Listing, with_entry}
use Rattle.numeric_ranges.specs.Added.{parts_of, added, left_half, right_half}
use Rattle.numeric_ranges.specs.Ranges.{Rows, low_of, is_below, entries_in_rows, list_at, with_list}
use Rattle.numeric_ranges.specs.Values.{values, cut_of, splits}
use Rattle.numeric_ranges.proofs.ValueLaws.{le_from_lt, le_from_not_lt}

abbrev size : ℤ × Listing NumHit → ℕ
size row = length row.1.entries

-- a value is below a cut, or the cut is at most the value
cut_tests : (cut v : ℤ) → int_le cut v ≡ not (int_lt v cut)
cut_tests cut v = elim (cases_Bool (int_lt v cut)) [
  | inl y ↦ rw (y, le_from_lt v cut y)
  | inr n ↦ rw (n, le_from_not_lt v cut n)
]

-- a range and its two halves have as many entries
pub count_parts : (low : ℤ) (list : Listing NumHit) (markers : Markers) → entries_in_rows (parts_of low list markers) ≡ length list.entries
count_parts low list markers =
    let cut = cut_of (values list.entries) in
    let left : ℤ × Listing NumHit = (low, left_half cut list.entries markers) in
    let right : ℤ × Listing NumHit = (cut, right_half cut list.entries markers) in
    let halves = length-filter_both (λ (e : ℕ × NumHit). int_lt e.1.value cut) (λ e. int_le cut e.1.value) (λ e. cut_tests cut e.1.value) list.entries in
    let both : entries_in_rows (left ∷ right ∷ []) ≡ length list.entries = omega (arith, sum_by-cons size left (right ∷ []), sum_by-cons size right [], halves) in
    let one : entries_in_rows ((low, list) ∷ []) ≡ length list.entries = omega (arith, sum_by-cons size (low, list) []) in
    elim (cases_Bool (splits list.entries)) [
      | inl y ↦ ap (λ b. entries_in_rows (cond b (left ∷ right ∷ []) ((low, list) ∷ []))) y ∙ both
      | inr n ↦ ap (λ b. entries_in_rows (cond b (left ∷ right ∷ []) ((low, list) ∷ []))) n ∙ one
    ]

-- the row that an entry goes into has one more, in one part or two
count_here : (row : ℤ × Listing NumHit) (rows : Rows) (id : ℕ) (hit : NumHit) (markers : Markers)
    → entries_in_rows (parts_of row.0 (with_entry row.1 id hit) markers ++ rows) ≡ entries_in_rows (row ∷ rows) + 1
count_here row rows id hit markers =
    let list = with_entry row.1 id hit in
    omega (
      arith,
      sum_by-append size (parts_of row.0 list markers) rows,
      sum_by-cons size row rows,
      count_parts row.0 list markers,
      length-append row.1.entries ((id, hit) ∷ []),
    )

-- one more entry is one more
pub count_added : (rows : Rows) (id : ℕ) (value : ℤ) (markers : Markers) (first : ℤ) → low_of rows ≡ Some first
    → entries_in_rows (added rows id value markers) ≡ entries_in_rows rows + 1
count_added [] id value markers first some = cc
count_added (row ∷ []) id value markers first some = count_here row [] id (record { value = value }) markers
count_added (row ∷ next ∷ rows) id value markers first some =
    let parts = parts_of row.0 (with_entry row.1 id (record { value = value })) markers in
    let more = added (next ∷ rows) id value markers in
    elim (cases_Bool (is_below (Some next.0) value)) [
      | inl y ↦ ap (λ b. entries_in_rows (cond b (parts ++ next ∷ rows) (row ∷ more))) y
          ∙ count_here row (next ∷ rows) id (record { value = value }) markers
      | inr n ↦ ap (λ b. entries_in_rows (cond b (parts ++ next ∷ rows) (row ∷ more))) n
          ∙ omega (arith, sum_by-cons size row more, sum_by-cons size row (next ∷ rows), count_added (next ∷ rows) id value markers next.0 refl)
    ]

-- a list in the place of another
pub count_put : (rows : Rows) (low : ℤ) (old new : Listing NumHit) → list_at rows low ≡ Some old
    → entries_in_rows (with_list rows low new) + length old.entries ≡ entries_in_rows rows + length new.entries
count_put [] low old new is = cc
count_put (row ∷ rows) low old new is =
    let rest = set_value (int_eq low) rows new in
    elim (cases_Bool (int_eq low row.0)) [
      | inl y ↦
          let here : row.1 ≡ old = cc (sym (ap (λ b. cond b (Some row.1) (list_at rows low)) y) ∙ is) in
          let long : length row.1.entries ≡ length old.entries = ap (λ (l : Listing NumHit). length l.entries) here in
          let put : with_list (row ∷ rows) low new ≡ (row.0, new) ∷ rows = ap (λ b. cond b ((row.0, new) ∷ rows) (row ∷ rest)) y in
          omega (arith, ap entries_in_rows put, sum_by-cons size (row.0, new) rows, sum_by-cons size row rows, long)
      | inr n ↦
          let there : list_at rows low ≡ Some old = sym (ap (λ b. cond b (Some row.1) (list_at rows low)) n) ∙ is in
          let put : with_list (row ∷ rows) low new ≡ row ∷ rest = ap (λ b. cond b ((row.0, new) ∷ rows) (row ∷ rest)) n in
          omega (arith, ap entries_in_rows put, sum_by-cons size row rest, sum_by-cons size row rows, count_put rows low old new there)
    ]
