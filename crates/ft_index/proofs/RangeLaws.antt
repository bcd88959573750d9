-- What a number more does to the ids and the markers of ranges.
use Rattle.std.proofs.Common.{◌≡◌, ◌⊎◌, ℕ, ◌+◌, ◌-◌, ◌*◌, ◌<◌, ◌≤◌, Bool, false, true, ℤ, [], ◌∷◌, ◌++◌, length, refl, ap, sym, inl, inr, ◌∙◌, arith, Option, Some}
use Rattle.std.specs.Prelude.{int_le, int_lt}
use Rattle.std.proofs.lemmas.Bool.{cases_Bool}
use Rattle.std.specs.List.{AllByRecursion, filter}
use Rattle.std.specs.Ordering.{int_eq}
use Rattle.inverted_list.proofs.ReachLaws.{rises_push}
use Rattle.inverted_list.specs.Listing.{Listing, RisesAbove, last_id, marker_of, with_entry}
use Rattle.inverted_list.specs.declared.marker.Marker.{Marker}
use Rattle.inverted_list.specs.declared.marker.Markers.{Markers}
use Rattle.numeric_ranges.proofs.HalfLaws.{last_filter, rises_filter}
use Rattle.numeric_ranges.proofs.ValueLaws.{eq_true}
use Rattle.numeric_ranges.specs.Added.{added, left_half, marker_after, parts_of, right_half}
use Rattle.numeric_ranges.specs.Ranges.{IsAbove, Rows, is_below, list_at, low_of}
use Rattle.numeric_ranges.specs.Values.{Entries, cut_of, splits, values}
use Rattle.posting_block.specs.declared.hits.NumHit.{NumHit}
use Rattle.gc_splice.specs.Growing.{ComesFrom}
use Rattle.ft_index.specs.Markers.{AllBefore, IsGiven, TakesMarkers, slot_marker}
use Rattle.ft_index.specs.UpTo.{RisesUpTo, RowsUpTo}
use Rattle.gc_splice.proofs.GrowingLaws.{comes_same, comes_entry, comes_fresh}
use Rattle.ft_index.proofs.ListLaws.{last_id-push}
use Rattle.ft_index.proofs.TakingLaws.{before-of, not-again}

pub above-up_to : (id : ℕ) (rows : Rows) → AllByRecursion (λ row. RisesAbove 0 row.1.entries) rows → IsAbove id rows → RowsUpTo id rows
above-up_to id [] rises above = tt
above-up_to id (row ∷ rows) rises above = (record { rise = rises.0; end = omega (arith, above.0) }, above-up_to id rows rises.1 above.1)

rows-append : (id : ℕ) (xs ys : Rows) → RowsUpTo id xs → RowsUpTo id ys → RowsUpTo id (xs ++ ys)
rows-append id [] ys first second = second
rows-append id (row ∷ xs) ys first second = (first.0, rows-append id xs ys first.1 second)

parts-up_to : (low : ℤ) (list : Listing NumHit) (id : ℕ) (hit : NumHit) (markers : Markers) → RisesAbove 0 list.entries → last_id 0 list.entries < id
    → RowsUpTo id (parts_of low (with_entry list id hit) markers)
parts-up_to low list id hit markers rises above =
    let es = list.entries ++ (id, hit) ∷ [] in
    let more : RisesAbove 0 es = rises_push 0 id hit list.entries rises above in
    let end : last_id 0 es ≡ id = last_id-push 0 id hit list.entries in
    let cut = cut_of (values es) in
    elim (cases_Bool (splits es)) [
      | inl y ↦ rw y (half (λ (e : ℕ × NumHit). int_lt e.1.value cut) es more end, (half (λ (e : ℕ × NumHit). int_le cut e.1.value) es more end, tt))
      | inr n ↦ rw n (record { rise = more; end = omega (arith, end) }, tt)
    ]
  where
    half : (p : ℕ × NumHit → Bool) (es : Entries) → RisesAbove 0 es → last_id 0 es ≡ id → RisesUpTo id (filter p es)
    half p es more end = record { rise = rises_filter p 0 es more; end = omega (arith, last_filter p 0 es more, end) }

-- where ids rise, and are below one that is added, they rise up to it
pub added-up_to : (rows : Rows) (id : ℕ) (value : ℤ) (markers : Markers) → AllByRecursion (λ row. RisesAbove 0 row.1.entries) rows → IsAbove id rows → RowsUpTo id (added rows id value markers)
added-up_to [] id value markers rises above = tt
added-up_to (row ∷ rows) id value markers rises above = elim (cases_Bool (is_below (low_of rows) value)) [
  | inl y ↦ rw y (rows-append id (parts_of row.0 (with_entry row.1 id (record { value = value })) markers) rows
      (parts-up_to row.0 row.1 id (record { value = value }) markers rises.0 above.0) (above-up_to id rows rises.1 above.1))
  | inr n ↦ rw n (record { rise = rises.0; end = omega (arith, above.0) }, added-up_to rows id value markers rises.1 above.1)
]

-- each range keeps its marker
abbrev Keeps : Rows → Rows → Type 0
Keeps old new = (low : ℤ) (marker : Marker) → slot_marker (Some new) low ≡ Some marker → slot_marker (Some old) low ≡ Some marker

-- or one is split in two, which have the two markers that are given next
record IsSplit (markers : Markers) (old new : Rows) : Type 0 where
  more : length new ≡ length old + 1
  at : ℤ
  cut : ℤ
  each : (low : ℤ) (marker : Marker) → slot_marker (Some new) low ≡ Some marker
      → (slot_marker (Some old) low ≡ Some marker) ⊎ (((low ≡ at) × (marker ≡ marker_of markers)) ⊎ ((low ≡ cut) × (marker ≡ marker_of (marker_after markers))))

marker-first : (row : ℤ × Listing NumHit) (rows : Rows) (low : ℤ) → int_eq low row.0 ≡ true → slot_marker (Some (row ∷ rows)) low ≡ Some row.1.marker
marker-first row rows low is = rw is refl

marker-rest : (row : ℤ × Listing NumHit) (rows : Rows) (low : ℤ) → int_eq low row.0 ≡ false → slot_marker (Some (row ∷ rows)) low ≡ slot_marker (Some rows) low
marker-rest row rows low is = rw is refl

some-same : (a b : Marker) → ◌≡◌ {A = Option Marker} (Some a) (Some b) → b ≡ a
some-same a b is = let one : a ≡ b = cc (is) in sym one

parts-change : (row : ℤ × Listing NumHit) (rows : Rows) (list : Listing NumHit) (markers : Markers) → list.marker ≡ row.1.marker
    → Keeps (row ∷ rows) (parts_of row.0 list markers ++ rows) ⊎ IsSplit markers (row ∷ rows) (parts_of row.0 list markers ++ rows)
parts-change row rows list markers same = elim (cases_Bool (splits list.entries)) [
  | inl y ↦ rw y (inr (record {
    more = omega arith;
    at = row.0;
    cut = cut_of (values list.entries);
    each = λ low marker has. elim (cases_Bool (int_eq low row.0)) [
      | inl is ↦ inr (inl (eq_true low row.0 is, some-same (marker_of markers) marker (rw is at has)))
      | inr away ↦ elim (cases_Bool (int_eq low (cut_of (values list.entries)))) [
        | inl is ↦ inr (inr (eq_true low (cut_of (values list.entries)) is, some-same (marker_of (marker_after markers)) marker (rw (away, is) at has)))
        | inr other ↦ inl (marker-rest row rows low away ∙ rw (away, other) at has)
      ]
    ];
  }))
  | inr n ↦ rw n (inl (λ low marker has. elim (cases_Bool (int_eq low row.0)) [
    | inl is ↦ marker-first row rows low is ∙ (ap Some (sym same) ∙ rw is at has)
    | inr away ↦ marker-rest row rows low away ∙ rw away at has
  ]))
]

changes : (rows : Rows) (id : ℕ) (value : ℤ) (markers : Markers) → Keeps rows (added rows id value markers) ⊎ IsSplit markers rows (added rows id value markers)
changes [] id value markers = inl (λ low marker has. has)
changes (row ∷ rows) id value markers = elim (cases_Bool (is_below (low_of rows) value)) [
  | inl y ↦ rw y (parts-change row rows (with_entry row.1 id (record { value = value })) markers refl)
  | inr n ↦ rw n (elim (changes rows id value markers) [ inl keeps ↦ inl (later keeps) | inr split ↦ inr (split_later split) ])
]
  where
    later : Keeps rows (added rows id value markers) → Keeps (row ∷ rows) (row ∷ added rows id value markers)
    later keeps low marker has = elim (cases_Bool (int_eq low row.0)) [
      | inl y ↦ marker-first row rows low y ∙ (sym (marker-first row (added rows id value markers) low y) ∙ has)
      | inr n ↦ marker-rest row rows low n ∙ keeps low marker (sym (marker-rest row (added rows id value markers) low n) ∙ has)
    ]

    split_later : IsSplit markers rows (added rows id value markers) → IsSplit markers (row ∷ rows) (row ∷ added rows id value markers)
    split_later split = record {
      more = omega (arith, split.more);
      at = split.at;
      cut = split.cut;
      each = λ low marker has. elim (cases_Bool (int_eq low row.0)) [
        | inl y ↦ inl (marker-first row rows low y ∙ (sym (marker-first row (added rows id value markers) low y) ∙ has))
        | inr n ↦ elim (split.each low marker (sym (marker-rest row (added rows id value markers) low n) ∙ has)) [
          | inl old ↦ inl (marker-rest row rows low n ∙ old)
          | inr new ↦ inr new
        ]
      ];
    }

pub added-takes : (rows : Rows) (id : ℕ) (value : ℤ) (from to : Markers) → AllBefore from (slot_marker (Some rows)) → to.event ≡ from.event → from.next ≤ to.next
    → to.next ≡ from.next + 2 * (length (added rows id value from) - length rows) → TakesMarkers from to (slot_marker (Some rows)) (slot_marker (Some (added rows id value from)))
added-takes rows id value from to before event next taken = elim (changes rows id value from) [
  | inl keeps ↦ record {
    event = event;
    next = next;
    gains = λ low marker has. inl (keeps low marker has);
    apart = λ low other marker given has there. absurd (not-again from to marker (before-of from (slot_marker (Some rows)) low marker before (keeps low marker has)) given);
  }
  | inr split ↦ record {
    event = event;
    next = next;
    gains = λ low marker has. elim (split.each low marker has) [
      | inl old ↦ inl old
      | inr new ↦ inr (given marker split.more (elim new [ inl first ↦ inl first.1 | inr second ↦ inr second.1 ]))
    ];
    apart = λ low other marker is has there. elim (split.each low marker has) [
      | inl old ↦ absurd (not-again from to marker (before-of from (slot_marker (Some rows)) low marker before old) is)
      | inr mine ↦ elim (split.each other marker there) [
        | inl old ↦ absurd (not-again from to marker (before-of from (slot_marker (Some rows)) other marker before old) is)
        | inr theirs ↦ same low other split.at split.cut marker mine theirs
      ]
    ];
  }
]
  where
    given : (marker : Marker) → length (added rows id value from) ≡ length rows + 1 → (marker ≡ marker_of from) ⊎ (marker ≡ marker_of (marker_after from)) → IsGiven from to marker
    given marker more (inl is) = record { event = ap (λ (m : Marker). m.event) is; least = omega (arith, ap (λ (m : Marker). m.nth) is); below = omega (arith, ap (λ (m : Marker). m.nth) is, more, taken) }
    given marker more (inr is) = record { event = ap (λ (m : Marker). m.event) is; least = omega (arith, ap (λ (m : Marker). m.nth) is); below = omega (arith, ap (λ (m : Marker). m.nth) is, more, taken) }

    same : (low other at cut : ℤ) (marker : Marker) → ((low ≡ at) × (marker ≡ marker_of from)) ⊎ ((low ≡ cut) × (marker ≡ marker_of (marker_after from)))
        → ((other ≡ at) × (marker ≡ marker_of from)) ⊎ ((other ≡ cut) × (marker ≡ marker_of (marker_after from))) → low ≡ other
    same low other at cut marker (inl mine) (inl theirs) = mine.0 ∙ sym theirs.0
    same low other at cut marker (inl mine) (inr theirs) = absurd (omega (arith, ap (λ (m : Marker). m.nth) mine.1, ap (λ (m : Marker). m.nth) theirs.1))
    same low other at cut marker (inr mine) (inl theirs) = absurd (omega (arith, ap (λ (m : Marker). m.nth) mine.1, ap (λ (m : Marker). m.nth) theirs.1))
    same low other at cut marker (inr mine) (inr theirs) = mine.0 ∙ sym theirs.0

-- a range grows, or its halves are made in this event
parts-come : (row : ℤ × Listing NumHit) (rows : Rows) (list : Listing NumHit) (markers : Markers) (low : ℤ) → ComesFrom markers.event (Some row.1) (Some list)
    → ComesFrom markers.event (list_at (row ∷ rows) low) (list_at (parts_of row.0 list markers ++ rows) low)
parts-come row rows list markers low come = elim (cases_Bool (splits list.entries)) [
  | inl y ↦ rw y (elim (cases_Bool (int_eq low row.0)) [
    | inl is ↦ rw is (comes_fresh markers.event (Some row.1) (left_half (cut_of (values list.entries)) list.entries markers) (omega arith))
    | inr away ↦ elim (cases_Bool (int_eq low (cut_of (values list.entries)))) [
      | inl is ↦ rw (away, is) (comes_fresh markers.event (list_at rows low) (right_half (cut_of (values list.entries)) list.entries markers) (omega arith))
      | inr other ↦ rw (away, other) (comes_same markers.event (list_at rows low))
    ]
  ])
  | inr n ↦ rw n (elim (cases_Bool (int_eq low row.0)) [
    | inl is ↦ rw is come
    | inr away ↦ rw away (comes_same markers.event (list_at rows low))
  ])
]

pub added-come : (rows : Rows) (id : ℕ) (value : ℤ) (markers : Markers) (low : ℤ) → ComesFrom markers.event (list_at rows low) (list_at (added rows id value markers) low)
added-come [] id value markers low = comes_same markers.event (list_at [] low)
added-come (row ∷ rows) id value markers low = elim (cases_Bool (is_below (low_of rows) value)) [
  | inl y ↦ rw y (parts-come row rows (with_entry row.1 id (record { value = value })) markers low (comes_entry markers.event row.1 id (record { value = value })))
  | inr n ↦ rw n (elim (cases_Bool (int_eq low row.0)) [
    | inl is ↦ rw is (comes_same markers.event (Some row.1))
    | inr away ↦ rw away (added-come rows id value markers low)
  ])
]
