-- What it says of all ranges of a field that the dead entries of one were taken out.
use Rattle.std.specs.Prelude.{◌≡◌, ◌⊎◌, ◌||◌, ℕ, suc, zero, ◌+◌, ◌≤◌, ℤ, List, [], ◌∷◌, ◌++◌, Bool, true, false, Option, None, Some, IfNone, IfSome, OnOk, OnErr, take, refl}
use Rattle.std.proofs.Common.{sym, ap, subst, ◌∙◌, inl, inr, arith, add-one, Result}
use Rattle.std.specs.Option.{option_map}
use Rattle.std.specs.Prelude.{slice_get}
use Rattle.std.specs.List.{list_any}
use Rattle.std.specs.Ordering.{int_eq}
use Rattle.std.proofs.lemmas.Bool.{cases_Bool}
use Rattle.gc_splice.specs.Alive.{Without, all_alive}
use Rattle.gc_splice.specs.Growing.{ComesFrom}
use Rattle.gc_splice.specs.Markers.{marker_after}
use Rattle.gc_splice.proofs.GrowingLaws.{comes_same}
use Rattle.gc_splice.proofs.WithoutLaws.{without_same}
use Rattle.inverted_list.specs.Listing.{Listing, marker_of}
use Rattle.inverted_list.specs.declared.marker.Marker.{Marker}
use Rattle.inverted_list.specs.declared.marker.Markers.{Markers}
use Rattle.numeric_ranges.proofs.ValueLaws.{eq_same, eq_true}
use Rattle.numeric_ranges.specs.Ranges.{Rows, list_at, with_list}
use Rattle.numeric_ranges.specs.Splicing.{CollectsRange, IsCollected}
use Rattle.posting_block.specs.declared.hits.NumHit.{NumHit}
use Rattle.ft_index.specs.Collecting.{LowsLiveBut, RangesLiveBut}
use Rattle.ft_index.specs.Lists.{list_from}
use Rattle.ft_index.specs.Markers.{AllBefore, IsGiven, TakesLists, marker_in, slot_marker}
use Rattle.ft_index.specs.Thinned.{RowsLive, RowsThin}
use Rattle.ft_index.proofs.CollectLaws.{all-live, less-alive}
use Rattle.ft_index.proofs.OutcomeLaws.{either}
use Rattle.ft_index.proofs.PlacingLaws.{range-comes}
use Rattle.ft_index.proofs.TakingLaws.{takes-at}
use Rattle.ft_index.proofs.ThinLaws.{rows-same}

-- another number is either equal or apart
int-symm : (a b : ℤ) → int_eq a b ≡ false → int_eq b a ≡ false
int-symm a b apart = elim (cases_Bool (int_eq b a)) [
  | inl y ↦ absurd (cc (subst (λ (n : ℤ). int_eq n b ≡ true) (eq_true b a y) (eq_same b), apart))
  | inr n ↦ n
]

-- The dead entries of a range's list were taken out, or nothing was done.
abbrev pub RowCollected : (ℕ → Bool) → ℤ → Rows → Rows → Markers → Markers → Type 0
RowCollected live low old new from to =
    ((new ≡ old) × (to ≡ from)) ⊎ ((l : Listing NumHit) × (list_at old low ≡ Some l) × (k : Listing NumHit) × IsCollected live from l k × (new ≡ with_list old low k) × (to ≡ marker_after from))

pub list-set : (rows : Rows) (low : ℤ) (k : Listing NumHit) (l : Listing NumHit) → list_at rows low ≡ Some l → list_at (with_list rows low k) low ≡ Some k
list-set [] low k l there = cc (there)
list-set (row ∷ rows) low k l there = elim (cases_Bool (int_eq low row.0)) [
  | inl y ↦ rw (y, y) refl
  | inr n ↦ rw (n, n) (list-set rows low k l (rw n at there))
]

pub list-kept : (rows : Rows) (low other : ℤ) (k : Listing NumHit) → int_eq low other ≡ false → list_at (with_list rows low k) other ≡ list_at rows other
list-kept [] low other k apart = refl
list-kept (row ∷ rows) low other k apart = elim (cases_Bool (int_eq low row.0)) [
  | inl y ↦
      let one : low ≡ row.0 = eq_true low row.0 y in
      let away : int_eq other row.0 ≡ false = ap (int_eq other) (sym one) ∙ int-symm low other apart in
      rw (y, away) refl
  | inr n ↦ rw n (elim (cases_Bool (int_eq other row.0)) [ inl z ↦ rw z refl | inr m ↦ rw m (list-kept rows low other k apart) ])
]

pub set-thin : (live : ℕ → Bool) (rows : Rows) (low : ℤ) (k l : Listing NumHit) → list_at rows low ≡ Some l → Without live l.entries k.entries → RowsThin live rows (with_list rows low k)
set-thin live [] low k l there less = tt
set-thin live (row ∷ rows) low k l there less = elim (cases_Bool (int_eq low row.0)) [
  | inl y ↦
      let some : ◌≡◌ {A = Option (Listing NumHit)} (Some row.1) (Some l) = rw y at there in
      let one : row.1 ≡ l = cc (some) in
      rw y (refl, subst (λ (m : Listing NumHit). Without live m.entries k.entries) (sym one) less, rows-same live rows)
  | inr n ↦ rw n (refl, without_same live row.1.entries, set-thin live rows low k l (rw n at there) less)
]

module _ (live : ℕ → Bool) (low : ℤ) (old new : Rows) (from to : Markers) where
  pub row-collected : {X E : Type 0} (result : Result X E) → OnOk result (IfSome (list_at old low) (λ l. CollectsRange live low from l old new to))
      → IfNone (list_at old low) ((new ≡ old) × (to ≡ from)) → OnErr result ((new ≡ old) × (to ≡ from)) → RowCollected live low old new from to
  row-collected result ok gone err = either result ok err (λ some. by_list (list_at old low) refl some gone) (λ same. inl same)
    where
      by_list : (list : Option (Listing NumHit)) → list_at old low ≡ list → IfSome list (λ l. CollectsRange live low from l old new to)
          → IfNone list ((new ≡ old) × (to ≡ from)) → RowCollected live low old new from to
      by_list None is some none = inl none
      by_list (Some l) is some none = elim (cases_Bool (all_alive live l.entries)) [
        | inl y ↦ inl (some.clean y)
        | inr n ↦ let (k, collected, set, after) = some.dead n in inr (l, is, k, collected, set, after)
      ]

  pub row-live : IfSome (list_at old low) (λ l. CollectsRange live low from l old new to) → IfNone (list_at old low) ((new ≡ old) × (to ≡ from))
      → IfSome (list_at new low) (λ l. all_alive live l.entries ≡ true)
  row-live some none = by_list (list_at old low) refl some none
    where
      LiveIn : Option (Listing NumHit) → Type 0
      LiveIn list = IfSome list (λ l. all_alive live l.entries ≡ true)

      by_list : (list : Option (Listing NumHit)) → list_at old low ≡ list → IfSome list (λ l. CollectsRange live low from l old new to)
          → IfNone list ((new ≡ old) × (to ≡ from)) → LiveIn (list_at new low)
      by_list None is some none = subst LiveIn (sym (ap (λ (rows : Rows). list_at rows low) none.0 ∙ is)) tt
      by_list (Some l) is some none = elim (cases_Bool (all_alive live l.entries)) [
        | inl y ↦ subst LiveIn (sym (ap (λ (rows : Rows). list_at rows low) (some.clean y).0 ∙ is)) y
        | inr n ↦
            let (k, collected, set, after) = some.dead n in
            subst LiveIn (sym (ap (λ (rows : Rows). list_at rows low) set ∙ list-set old low k l is)) (ap (all_alive live) collected.entries ∙ all-live live l.entries)
      ]

  pub row-thin : RowCollected live low old new from to → RowsThin live old new
  row-thin (inl same) = subst (RowsThin live old) (sym same.0) (rows-same live old)
  row-thin (inr (l, is, k, collected, set, after)) =
      subst (RowsThin live old) (sym set) (set-thin live old low k l is (less-alive live l.entries k.entries collected.entries))

  pub row-others : RowCollected live low old new from to → (other : ℤ) → int_eq low other ≡ false → list_at new other ≡ list_at old other
  row-others (inl same) other apart = ap (λ (rows : Rows). list_at rows other) same.0
  row-others (inr (l, is, k, collected, set, after)) other apart = ap (λ (rows : Rows). list_at rows other) set ∙ list-kept old low other k apart

  row-event : RowCollected live low old new from to → (to.event ≡ from.event) × (from.next ≤ to.next)
  row-event (inl same) = (ap (λ (m : Markers). m.event) same.1, omega (arith, ap (λ (m : Markers). m.next) same.1))
  row-event (inr (l, is, k, collected, set, after)) = (ap (λ (m : Markers). m.event) after, omega (arith, ap (λ (m : Markers). m.next) after))

  row-marker : RowCollected live low old new from to → (marker : Marker) → marker_in (list_at new low) ≡ Some marker → (marker_in (list_at old low) ≡ Some marker) ⊎ IsGiven from to marker
  row-marker (inl same) marker has = inl (sym (ap (λ (rows : Rows). marker_in (list_at rows low)) same.0) ∙ has)
  row-marker (inr (l, is, k, collected, set, after)) marker has =
      let some : ◌≡◌ {A = Option Marker} (Some k.marker) (Some marker) = sym (ap marker_in (ap (λ (rows : Rows). list_at rows low) set ∙ list-set old low k l is)) ∙ has in
      let one : k.marker ≡ marker = cc (some) in
      let given : marker_of from ≡ marker = sym collected.marker ∙ one in
      inr (record {
        event = sym (ap (λ (m : Marker). m.event) given);
        least = omega (arith, ap (λ (m : Marker). m.nth) given);
        below = omega (arith, ap (λ (m : Marker). m.nth) given, ap (λ (m : Markers). m.next) after);
      })

  -- each list stays, or is made in this event
  row-comes : RowCollected live low old new from to → (other : ℤ) → ComesFrom from.event (list_at old other) (list_at new other)
  row-comes (inl same) other = subst (λ (rows : Rows). ComesFrom from.event (list_at old other) (list_at rows other)) (sym same.0) (comes_same from.event (list_at old other))
  row-comes (inr (l, is, k, collected, set, after)) other =
      subst (λ (rows : Rows). ComesFrom from.event (list_at old other) (list_at rows other)) (sym set)
      (range-comes from.event old low k (omega (arith, ap (λ (m : Marker). m.event) collected.marker)) other)

  pub row-takes : AllBefore from (slot_marker (Some old)) → RowCollected live low old new from to → TakesLists from to (list_from (Some old)) (list_from (Some new))
  row-takes before collected =
      let event = row-event collected in
      record {
        markers = takes-at low from to (slot_marker (Some old)) (slot_marker (Some new)) event.0 event.1 before
            (λ other. elim (cases_Bool (int_eq low other)) [
              | inl y ↦ inl (sym (eq_true low other y))
              | inr n ↦ inr (ap marker_in (row-others collected other n))
            ])
            (row-marker collected);
        come = row-comes collected;
      }

module _ (live : ℕ → Bool) where
  any-more : (q : ℤ → Bool) (lows : List ℤ) (low : ℤ) → list_any q lows ≡ true → list_any q (lows ++ low ∷ []) ≡ true
  any-more q [] low any = absurd (cc (any))
  any-more q (first ∷ lows) low any = elim (cases_Bool (q first)) [
    | inl y ↦ rw y refl
    | inr n ↦ rw n (any-more q lows low (rw n at any))
  ]

  any-last : (q : ℤ → Bool) (lows : List ℤ) (low : ℤ) → q low ≡ true → list_any q (lows ++ low ∷ []) ≡ true
  any-last q [] low y = rw y refl
  any-last q (first ∷ lows) low y = elim (cases_Bool (q first)) [
    | inl z ↦ rw z refl
    | inr n ↦ rw n (any-last q lows low y)
  ]

  -- what was noted stays noted
  noted-more : (lows : List ℤ) (low : ℤ) (rows : Rows) → RangesLiveBut live lows rows → RangesLiveBut live (lows ++ low ∷ []) rows
  noted-more lows low [] noted = tt
  noted-more lows low (row ∷ rows) noted = (
    elim (cases_Bool (all_alive live row.1.entries)) [
      | inl y ↦ rw y refl
      | inr n ↦ rw n (any-more (int_eq row.0) lows low (rw n at noted.0))
    ],
    noted-more lows low rows noted.1,
  )

  noted-push : (lows : List ℤ) (rows : Rows) (row : ℤ × Listing NumHit) → RangesLiveBut live lows rows → (all_alive live row.1.entries || list_any (int_eq row.0) lows) ≡ true
      → RangesLiveBut live lows (rows ++ row ∷ [])
  noted-push lows [] row noted here = (here, tt)
  noted-push lows (first ∷ rows) row noted here = (noted.0, noted-push lows rows row noted.1 here)

  -- one range more, which has no dead entry
  pub range-clean : (lows : List ℤ) (rows : Rows) (at : ℕ) (low : ℤ) (l : Listing NumHit) → take (at + 1) rows ≡ take at rows ++ (low, l) ∷ [] → all_alive live l.entries ≡ true
      → RangesLiveBut live lows (take at rows) → RangesLiveBut live lows (take (at + 1) rows)
  range-clean lows rows at low l more clean noted =
      subst (RangesLiveBut live lows) (sym more) (noted-push lows (take at rows) (low, l) noted (rw clean refl))

  -- or is noted
  pub range-noted : (lows : List ℤ) (rows : Rows) (at : ℕ) (low : ℤ) (l : Listing NumHit) → take (at + 1) rows ≡ take at rows ++ (low, l) ∷ []
      → RangesLiveBut live lows (take at rows) → RangesLiveBut live (lows ++ low ∷ []) (take (at + 1) rows)
  range-noted lows rows at low l more noted =
      subst (RangesLiveBut live (lows ++ low ∷ [])) (sym more)
      (noted-push (lows ++ low ∷ []) (take at rows) (low, l) (noted-more lows low (take at rows) noted) (last (all_alive live l.entries)))
    where
      last : (b : Bool) → (b || list_any (int_eq low) (lows ++ low ∷ [])) ≡ true
      last true = refl
      last false = any-last (int_eq low) lows low (eq_same low)

  -- a range that was collected needs not be named any more
  pub lows-next : (low : ℤ) (lows : List ℤ) (old new : Rows) → LowsLiveBut live (low ∷ lows) old → IfSome (list_at new low) (λ l. all_alive live l.entries ≡ true)
      → ((other : ℤ) → int_eq low other ≡ false → list_at new other ≡ list_at old other) → LowsLiveBut live lows new
  lows-next low lows old new but here others other = elim (cases_Bool (int_eq low other)) [
    | inl y ↦ clean (list_at new other) (subst (λ (n : ℤ). IfSome (list_at new n) (λ l. all_alive live l.entries ≡ true)) (eq_true low other y) here)
    | inr n ↦
        subst (λ (list : Option (Listing NumHit)). IfSome list (λ l. (all_alive live l.entries || list_any (int_eq other) lows) ≡ true)) (sym (others other n))
        (kept (list_at old other) (int-symm low other n) (but other))
  ]
    where
      clean : (list : Option (Listing NumHit)) → IfSome list (λ l. all_alive live l.entries ≡ true) → IfSome list (λ l. (all_alive live l.entries || list_any (int_eq other) lows) ≡ true)
      clean None is = tt
      clean (Some l) is = rw is refl

      kept : (list : Option (Listing NumHit)) → int_eq other low ≡ false → IfSome list (λ l. (all_alive live l.entries || list_any (int_eq other) (low ∷ lows)) ≡ true)
          → IfSome list (λ l. (all_alive live l.entries || list_any (int_eq other) lows) ≡ true)
      kept None away is = tt
      kept (Some l) away is = rw away at is

  pub lows-none : (rows : Rows) → LowsLiveBut live [] rows → RowsLive live (Some rows)
  lows-none rows but low = clean (list_at rows low) (but low)
    where
      clean : (list : Option (Listing NumHit)) → IfSome list (λ l. (all_alive live l.entries || false) ≡ true) → IfSome list (λ l. all_alive live l.entries ≡ true)
      clean None is = tt
      clean (Some l) is = elim (cases_Bool (all_alive live l.entries)) [ inl y ↦ y | inr n ↦ absurd (cc (rw n at is)) ]

  -- what holds range by range holds of the range of each low
  pub lows-rows : (lows : List ℤ) (rows : Rows) → RangesLiveBut live lows rows → LowsLiveBut live lows rows
  lows-rows lows [] each low = tt
  lows-rows lows (row ∷ rows) each low = elim (cases_Bool (int_eq low row.0)) [
    | inl y ↦
        rw y (subst (λ (n : ℤ). (all_alive live row.1.entries || list_any (int_eq n) lows) ≡ true) (sym (eq_true low row.0 y)) each.0)
    | inr n ↦ rw n (lows-rows lows rows each.1 low)
  ]

-- the range at an index, as it is read by its list
pub record RangeAt (rows : Rows) (at : ℕ) (l : Listing NumHit) : Type 0 where
  pub low : ℤ
  pub more : take (at + 1) rows ≡ take at rows ++ (low, l) ∷ []
  pub begins : option_map (λ row. row.0) (slice_get rows at) ≡ Some low

pub range-at : (rows : Rows) (at : ℕ) (l : Listing NumHit) → option_map (λ row. row.1) (slice_get rows at) ≡ Some l → RangeAt rows at l
range-at rows at l there = let (low, more, begins) = by_place rows at l there in record { low = low; more = rw add-one more; begins = begins }
  where
    by_place : (rows : Rows) (at : ℕ) (l : Listing NumHit) → option_map (λ (row : ℤ × Listing NumHit). row.1) (slice_get rows at) ≡ Some l
        → (low : ℤ) × (take (suc at) rows ≡ take at rows ++ (low, l) ∷ []) × (option_map (λ (row : ℤ × Listing NumHit). row.0) (slice_get rows at) ≡ Some low)
    by_place [] zero l there = absurd (cc (there))
    by_place [] (suc at) l there = absurd (cc (there))
    by_place (row ∷ rows) zero l there =
        let some : ◌≡◌ {A = Option (Listing NumHit)} (Some row.1) (Some l) = there in
        let one : row.1 ≡ l = cc (some) in
        (row.0, ap (λ (m : Listing NumHit). (row.0, m) ∷ []) one, refl)
    by_place (row ∷ rows) (suc at) l there =
        let (low, more, begins) = by_place rows at l there in (low, ap (λ (rest : Rows). row ∷ rest) more, begins)
