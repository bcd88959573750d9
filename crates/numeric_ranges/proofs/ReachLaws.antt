-- How many rows begin at a value or below it, and which row that is.
use Rattle.std.proofs.Common.{◌≡◌, ℕ, zero, suc, ◌+◌, ◌-◌, ◌<◌, ◌≤◌, Bool, true, false, cond, ◌&&◌, List, [], ◌∷◌, length, get_or, set, Some, None, inl, inr, refl, sym, ap, subst, ◌∙◌, arith, ℤ, IsTrue, ◌↔◌}
use Rattle.std.specs.Prelude.{int_le, int_lt, nat_le, nat_lt}
use Rattle.std.specs.Map.{set_value}
use Rattle.std.specs.Ordering.{int_eq}
use Rattle.std.proofs.lemmas.Bool.{cases_Bool, false≢true}
use Rattle.std.proofs.lemmas.Bool.Decides.{nat_tests}
use Rattle.std.proofs.lemmas.List.{get_or-map}
use Rattle.std.proofs.lemmas.Int.{ints}
use Rattle.posting_block.specs.declared.hits.NumHit.{NumHit}
use Rattle.inverted_list.specs.Listing.{Listing}
use Rattle.numeric_ranges.specs.declared.row.Row.{Row}
use Rattle.numeric_ranges.specs.Ranges.{Rows, low_of, is_below, LowsRise, list_at, meets}
use Rattle.numeric_ranges.specs.Rows.{rows_of, reach}
use Rattle.numeric_ranges.proofs.ValueLaws.{le_from_lt, le_from_not_lt, lt_from_not_le, lt_trans, le_trans, lt_le_trans, eq_true, eq_same}

pub le_of_lt : (a b : ℤ) → int_lt a b ≡ true → int_le a b ≡ true
le_of_lt a b h = grind (arith, ints)

eq_above : (a b : ℤ) → int_lt b a ≡ true → int_eq a b ≡ false
eq_above a b h = grind (arith, ints)

pub reach_yes : (v : ℤ) (row : ℤ × Listing NumHit) (rows : Rows) → int_le row.0 v ≡ true → reach v (row ∷ rows) ≡ suc (reach v rows)
reach_yes v row rows h = ap {B = ℕ} (λ b. cond b (suc (reach v rows)) 0) h

pub reach_no : (v : ℤ) (row : ℤ × Listing NumHit) (rows : Rows) → int_le row.0 v ≡ false → reach v (row ∷ rows) ≡ 0
reach_no v row rows h = ap {B = ℕ} (λ b. cond b (suc (reach v rows)) 0) h

pub reach_fits : (v : ℤ) (rows : Rows) → reach v rows ≤ length rows
reach_fits v [] = omega arith
reach_fits v (row ∷ rows) =
    elim (cases_Bool (int_le row.0 v)) [
      | inl y ↦ omega (arith, reach_yes v row rows y, reach_fits v rows)
      | inr n ↦ omega (arith, reach_no v row rows n)
    ]

-- a value below the next row reaches no further, and one that is not reaches it
pub reach_below : (v : ℤ) (rows : Rows) → is_below (low_of rows) v ≡ true → reach v rows ≡ 0
reach_below v [] h = refl
reach_below v (row ∷ rows) h = reach_no v row rows (le_from_lt v row.0 h)

pub reach_beyond : (v : ℤ) (rows : Rows) → is_below (low_of rows) v ≡ false → 0 < reach v rows
reach_beyond v [] h = absurd (false≢true (sym h))
reach_beyond v (row ∷ rows) h = omega (arith, reach_yes v row rows (le_from_not_lt v row.0 h))

pub below_none : (v : ℤ) (rows : Rows) → reach v rows ≡ 0 → is_below (low_of rows) v ≡ true
below_none v rows h = elim (cases_Bool (is_below (low_of rows) v)) [
  | inl y ↦ y
  | inr n ↦ absurd (omega (arith, h, reach_beyond v rows n))
]

pub below_some : (v : ℤ) (rows : Rows) (n : ℕ) → reach v rows ≡ suc n → is_below (low_of rows) v ≡ false
below_some v rows n h = elim (cases_Bool (is_below (low_of rows) v)) [
  | inl y ↦ absurd (omega (arith, h, reach_below v rows y))
  | inr m ↦ m
]

-- what is below a row that rises is below the next
pub below_next : (v : ℤ) (row : ℤ × Listing NumHit) (rows : Rows) → LowsRise (row ∷ rows) → int_lt v row.0 ≡ true → is_below (low_of rows) v ≡ true
below_next v row [] rise h = refl
below_next v row (next ∷ rows) rise h = lt_trans v row.0 next.0 h rise.0

-- the first low is below each later one
pub first_low : (row : ℤ × Listing NumHit) (rows : Rows) (k : ℕ) (d : ℤ × Listing NumHit) → LowsRise (row ∷ rows) → k < length rows → int_lt row.0 (get_or rows k d).0 ≡ true
first_low row [] k d rise h = absurd (omega (arith, h))
first_low row (next ∷ rows) zero d rise h = rise.0
first_low row (next ∷ rows) (suc k) d rise h = lt_trans row.0 next.0 (get_or rows k d).0 rise.0 (first_low next rows k d rise.1 (omega (arith, h)))

pub reach_over : (v : ℤ) (rows : Rows) (k : ℕ) (d : ℤ × Listing NumHit) → LowsRise rows → k < length rows → int_le (get_or rows k d).0 v ≡ true → k + 1 ≤ reach v rows
reach_over v [] k d rise h le = absurd (omega (arith, h))
reach_over v (row ∷ rows) zero d rise h le = omega (arith, reach_yes v row rows le)
reach_over v (row ∷ rows) (suc k) d rise h le =
    let less : k < length rows = omega (arith, h) in
    let here = le_trans row.0 (get_or rows k d).0 v (le_of_lt row.0 (get_or rows k d).0 (first_low row rows k d rise less)) le in
    omega (arith, reach_yes v row rows here, reach_over v rows k d rise.1 less le)

pub reach_under : (v : ℤ) (rows : Rows) (k : ℕ) (d : ℤ × Listing NumHit) → k < length rows → int_le (get_or rows k d).0 v ≡ false → reach v rows ≤ k
reach_under v [] k d h le = absurd (omega (arith, h))
reach_under v (row ∷ rows) zero d h le = omega (arith, reach_no v row rows le)
reach_under v (row ∷ rows) (suc k) d h le =
    let rest = reach_under v rows k d (omega (arith, h)) le in
    elim (cases_Bool (int_le row.0 v)) [
      | inl y ↦ omega (arith, reach_yes v row rows y, rest)
      | inr n ↦ omega (arith, reach_no v row rows n)
    ]

-- a row of the code and the row that it stands for
abbrev pub seen : Row → ℤ × Listing NumHit
seen row = (row.low, row.list)

pub length-rows : (rows : List Row) → length (rows_of rows) ≡ length rows
length-rows [] = refl
length-rows (row ∷ rows) = ap suc (length-rows rows)

pub row_seen : (rows : List Row) (k : ℕ) (d : ℤ × Listing NumHit) (row : Row) → k < length rows → row ≡ get_or rows k row → get_or (rows_of rows) k d ≡ seen row
row_seen rows k d row h is = get_or-map seen rows k row d h ∙ ap seen (sym is)

pub over_seen : (v : ℤ) (rows : List Row) (k : ℕ) (row : Row) → LowsRise (rows_of rows) → k < length rows → row ≡ get_or rows k row → int_le row.low v ≡ true → k + 1 ≤ reach v (rows_of rows)
over_seen v rows k row rise h is le =
    reach_over v (rows_of rows) k (seen row) rise (omega (arith, h, length-rows rows)) (ap (λ (r : ℤ × Listing NumHit). int_le r.0 v) (row_seen rows k (seen row) row h is) ∙ le)

pub under_seen : (v : ℤ) (rows : List Row) (k : ℕ) (row : Row) → k < length rows → row ≡ get_or rows k row → int_le row.low v ≡ false → reach v (rows_of rows) ≤ k
under_seen v rows k row h is le =
    reach_under v (rows_of rows) k (seen row) (omega (arith, h, length-rows rows)) (ap (λ (r : ℤ × Listing NumHit). int_le r.0 v) (row_seen rows k (seen row) row h is) ∙ le)

pub fits_seen : (v : ℤ) (rows : List Row) → reach v (rows_of rows) ≤ length rows
fits_seen v rows = omega (arith, reach_fits v (rows_of rows), length-rows rows)

-- a low above all that are reached has no row, and neither has one that the last reached is not
pub list_none : (low : ℤ) (rows : Rows) → LowsRise rows → reach low rows ≡ 0 → list_at rows low ≡ None
list_none low [] rise h = refl
list_none low (row ∷ rows) rise h =
    elim (cases_Bool (int_le row.0 low)) [
      | inl y ↦ absurd (omega (arith, h, reach_yes low row rows y))
      | inr n ↦
          let less = lt_from_not_le row.0 low n in
          ap (λ b. cond b (Some row.1) (list_at rows low)) (eq_below low row.0 less)
          ∙ list_none low rows rise.1 (reach_below low rows (below_next low row rows rise less))
    ]
  where
    eq_below : (a b : ℤ) → int_lt a b ≡ true → int_eq a b ≡ false
    eq_below a b h = grind (arith, ints)

pub list_other : (low : ℤ) (rows : Rows) (at : ℕ) (d : ℤ × Listing NumHit) → LowsRise rows → reach low rows ≡ suc at → ¬ ((get_or rows at d).0 ≡ low) → list_at rows low ≡ None
list_other low [] at d rise h apart = absurd (omega (arith, h))
list_other low (row ∷ rows) zero d rise h apart =
    elim (cases_Bool (int_le row.0 low)) [
      | inl y ↦ ap (λ b. cond b (Some row.1) (list_at rows low)) (eq_apart low row.0 apart)
          ∙ list_none low rows rise.1 (omega (arith, h, reach_yes low row rows y))
      | inr n ↦ absurd (omega (arith, h, reach_no low row rows n))
    ]
  where
    eq_apart : (a b : ℤ) → ¬ (b ≡ a) → int_eq a b ≡ false
    eq_apart a b apart = elim (cases_Bool (int_eq a b)) [
      | inl y ↦ absurd (apart (sym (eq_true a b y)))
      | inr n ↦ n
    ]
list_other low (row ∷ rows) (suc at) d rise h apart =
    elim (cases_Bool (int_le row.0 low)) [
      | inl y ↦
          let rest : reach low rows ≡ suc at = omega (arith, h, reach_yes low row rows y) in
          ap (λ b. cond b (Some row.1) (list_at rows low)) (eq_above low row.0 (less_next low row rows at rise rest))
          ∙ list_other low rows at d rise.1 rest apart
      | inr n ↦ absurd (omega (arith, h, reach_no low row rows n))
    ]
  where
    less_next : (low : ℤ) (row : ℤ × Listing NumHit) (rows : Rows) (at : ℕ) → LowsRise (row ∷ rows) → reach low rows ≡ suc at → int_lt row.0 low ≡ true
    less_next low row [] at rise h = absurd (omega (arith, h))
    less_next low row (next ∷ rows) at rise h = lt_le_trans row.0 next.0 low rise.0 (le_from_not_lt low next.0 (below_some low (next ∷ rows) at h))

-- the row that begins at a low is found, and written at its index
pub list_here : (low : ℤ) (rows : Rows) (at : ℕ) (d : ℤ × Listing NumHit) → LowsRise rows → at < length rows → (get_or rows at d).0 ≡ low → list_at rows low ≡ Some (get_or rows at d).1
list_here low [] at d rise h same = absurd (omega (arith, h))
list_here low (row ∷ rows) zero d rise h same =
    ap (λ b. cond b (Some row.1) (list_at rows low)) (subst (λ (n : ℤ). int_eq n row.0 ≡ true) same (eq_same row.0))
list_here low (row ∷ rows) (suc at) d rise h same =
    let less : at < length rows = omega (arith, h) in
    let above : int_lt row.0 low ≡ true = subst (λ (n : ℤ). int_lt row.0 n ≡ true) same (first_low row rows at d rise less) in
    ap (λ b. cond b (Some row.1) (list_at rows low)) (eq_above low row.0 above) ∙ list_here low rows at d rise.1 less same

pub set_here : (low : ℤ) (rows : Rows) (at : ℕ) (list : Listing NumHit) (d : ℤ × Listing NumHit) → LowsRise rows → at < length rows → (get_or rows at d).0 ≡ low
    → set rows at (low, list) ≡ set_value (int_eq low) rows list
set_here low [] at list d rise h same = absurd (omega (arith, h))
set_here low (row ∷ rows) zero list d rise h same =
    ap (λ (n : ℤ). (n, list) ∷ rows) (sym same)
    ∙ sym (ap (λ b. cond b ((row.0, list) ∷ rows) (row ∷ set_value (int_eq low) rows list)) (subst (λ (n : ℤ). int_eq n row.0 ≡ true) same (eq_same row.0)))
set_here low (row ∷ rows) (suc at) list d rise h same =
    let less : at < length rows = omega (arith, h) in
    let above : int_lt row.0 low ≡ true = subst (λ (n : ℤ). int_lt row.0 n ≡ true) same (first_low row rows at d rise less) in
    ap (λ rest. row ∷ rest) (set_here low rows at list d rise.1 less same)
    ∙ sym (ap (λ b. cond b ((row.0, list) ∷ rows) (row ∷ set_value (int_eq low) rows list)) (eq_above low row.0 above))

-- the rows that an interval meets
module _ (low high : ℤ) (order : int_le low high ≡ true) where
  pub meets_is : (rows : Rows) (i : ℕ) → LowsRise rows → i < length rows → meets rows i low high ≡ (nat_le (reach low rows) (suc i) && nat_lt i (reach high rows))
  meets_is [] i rise h = absurd (omega (arith, h))
  meets_is (row ∷ rows) zero rise h =
      elim (cases_Bool (int_le row.0 low)) [
        | inl y ↦
            let both = le_trans row.0 low high y order in
            elim (cases_Bool (is_below (low_of rows) low)) [
              | inl b ↦ rw (order, both, b, y) (tests_zero (reach low rows) (reach high rows) (reach_below low rows b))
              | inr n ↦ rw (order, both, n, y) (tests_no (reach low rows) (reach high rows) (reach_beyond low rows n))
            ]
        | inr m ↦
            let less = lt_from_not_le row.0 low m in
            rw (order, m, below_next low row rows rise less)
            (elim (cases_Bool (int_le row.0 high)) [
              | inl y ↦ rw y (tests_one (reach high rows))
              | inr n ↦ rw n refl
            ])
      ]
    where
      tests_one : (n : ℕ) → true ≡ nat_lt 0 (suc n)
      tests_one n = grind (arith, nat_tests)

      tests_zero : (m n : ℕ) → m ≡ 0 → true ≡ (nat_le (suc m) 1 && nat_lt 0 (suc n))
      tests_zero m n h = grind (arith, nat_tests)

      tests_no : (m n : ℕ) → 0 < m → false ≡ (nat_le (suc m) 1 && nat_lt 0 (suc n))
      tests_no m n h = grind (arith, nat_tests)
  meets_is (row ∷ rows) (suc i) rise h =
      let rest = meets_is rows i rise.1 (omega (arith, h)) in
      elim (cases_Bool (int_le row.0 low)) [
        | inl y ↦ rest ∙ sym (tests_yes (reach low rows) (reach high rows) (reach low (row ∷ rows)) (reach high (row ∷ rows)) i
            (reach_yes low row rows y) (reach_yes high row rows (le_trans row.0 low high y order)))
        | inr m ↦
            let none = reach_below low rows (below_next low row rows rise (lt_from_not_le row.0 low m)) in
            elim (cases_Bool (int_le row.0 high)) [
              | inl y ↦ rest ∙ tests_some (reach low rows) (reach high rows) (reach low (row ∷ rows)) (reach high (row ∷ rows)) i none
                  (reach_no low row rows m) (reach_yes high row rows y)
              | inr n ↦
                  let gone = reach_below high rows (below_next high row rows rise (lt_from_not_le row.0 high n)) in
                  rest ∙ tests_none (reach low rows) (reach high rows) (reach low (row ∷ rows)) (reach high (row ∷ rows)) i gone (reach_no high row rows n)
            ]
      ]
    where
      tests_yes : (a b m n i : ℕ) → m ≡ suc a → n ≡ suc b → (nat_le m (suc (suc i)) && nat_lt (suc i) n) ≡ (nat_le a (suc i) && nat_lt i b)
      tests_yes a b m n i h g = grind (arith, nat_tests)

      tests_some : (a b m n i : ℕ) → a ≡ 0 → m ≡ 0 → n ≡ suc b → (nat_le a (suc i) && nat_lt i b) ≡ (nat_le m (suc (suc i)) && nat_lt (suc i) n)
      tests_some a b m n i h g k = grind (arith, nat_tests)

      tests_none : (a b m n i : ℕ) → b ≡ 0 → n ≡ 0 → (nat_le a (suc i) && nat_lt i b) ≡ (nat_le m (suc (suc i)) && nat_lt (suc i) n)
      tests_none a b m n i h g = grind (arith, nat_tests)

pub meets_span : (rows : Rows) (i : ℕ) (low high : ℤ) (from to : ℕ) → int_le low high ≡ true → LowsRise rows → i < length rows → from ≡ reach low rows - 1 → to ≡ reach high rows
    → ((from ≤ i) × (i < to)) ↔ IsTrue (meets rows i low high)
meets_span rows i low high from to order rise h f t =
    let is = meets_is low high order rows i rise h in
    let P : Bool → Type 0 = λ b. ((from ≤ i) × (i < to)) ↔ (b ≡ true) in
    subst P (sym is) (tests (reach low rows) (reach high rows) from to i f t)
  where
    both : (a b : Bool) → (a && b) ≡ true → (a ≡ true) × (b ≡ true)
    both true true h = (refl, refl)
    both true false h = absurd (false≢true h)
    both false b h = absurd (false≢true h)

    le_back : (m i : ℕ) → nat_le m (suc i) ≡ true → m - 1 ≤ i
    le_back m i h = grind (arith, nat_tests)

    lt_back : (m i : ℕ) → nat_lt i m ≡ true → i < m
    lt_back m i h = grind (arith, nat_tests)

    forth : (m n i : ℕ) → m - 1 ≤ i → i < n → (nat_le m (suc i) && nat_lt i n) ≡ true
    forth m n i h g = grind (arith, nat_tests)

    tests : (m n from to i : ℕ) → from ≡ m - 1 → to ≡ n → ((from ≤ i) × (i < to)) ↔ ((nat_le m (suc i) && nat_lt i n) ≡ true)
    tests m n from to i f t = (
      (λ h. forth m n i (omega (arith, h.0, f)) (omega (arith, h.1, t))),
      (λ h. let two = both (nat_le m (suc i)) (nat_lt i n) h in (omega (arith, f, le_back m i two.0), omega (arith, t, lt_back n i two.1))),
    )

-- where the low is above the high no row is met
pub meets_none : (rows : Rows) (i : ℕ) (low high : ℤ) → int_lt high low ≡ true → meets rows i low high ≡ false
meets_none [] i low high h = refl
meets_none (row ∷ rows) zero low high h = rw (le_from_lt high low h) refl
meets_none (row ∷ rows) (suc i) low high h = meets_none rows i low high h

pub reach_mono : (a b : ℤ) (rows : Rows) → int_le a b ≡ true → reach a rows ≤ reach b rows
reach_mono a b [] h = omega arith
reach_mono a b (row ∷ rows) h =
    elim (cases_Bool (int_le row.0 a)) [
      | inl y ↦ omega (arith, reach_yes a row rows y, reach_yes b row rows (le_trans row.0 a b y h), reach_mono a b rows h)
      | inr n ↦ omega (arith, reach_no a row rows n)
    ]
