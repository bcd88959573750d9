-- What one more entry does to rows.
use Rattle.std.proofs.Common.{◌≡◌, ℕ, zero, suc, ◌+◌, ◌-◌, ◌<◌, ◌≤◌, Bool, true, false, cond, ◌&&◌, List, [], ◌∷◌, ◌++◌, length, get_or, set, Option, Some, None, inl, inr, refl, sym, ap, subst, ◌∙◌, arith, ℤ, IsTrue}
use Rattle.std.specs.Prelude.{int_le, int_lt, ◌<ℤ◌}
use Rattle.std.specs.List.{AllByRecursion, filter, insert}
use Rattle.std.proofs.lemmas.Bool.{cases_Bool, false≢true}
use Rattle.std.specs.Prelude.{negsuc}
use Rattle.std.proofs.lemmas.Int.{ints, to_z-of_z}
use mir.Syntax.{w64}
use mir.Val.{to_z, of_z, SFits}
use Rattle.std.proofs.lemmas.List.{append-nil, map-set, get_or_default}
use Rattle.std.proofs.lemmas.List.Elements.{filter-append}
use Rattle.posting_block.specs.declared.hits.NumHit.{NumHit}
use Rattle.inverted_list.specs.declared.marker.Markers.{Markers}
use Rattle.inverted_list.specs.Listing.{Listing, RisesAbove, last_id, with_entry}
use Rattle.inverted_list.proofs.ReachLaws.{rises_push}
use Rattle.numeric_ranges.specs.declared.row.Row.{Row}
use Rattle.numeric_ranges.specs.Values.{Entries, values, cut_of, splits}
use Rattle.numeric_ranges.specs.Added.{left_half, right_half, parts_of, added}
use Rattle.numeric_ranges.specs.Ranges.{Rows, low_of, is_below, lies_in, AreParted, LowsRise, EntriesLie, entries_in_rows}
use Rattle.numeric_ranges.specs.Rows.{rows_of, Knows, Held, reach, IsInside, AreHalves}
use Rattle.numeric_ranges.proofs.CountLaws.{count_added}
use Rattle.numeric_ranges.proofs.HalfLaws.{rises_filter}
use Rattle.numeric_ranges.proofs.ReachLaws.{reach_yes, reach_no, below_none, below_some, seen, row_seen, length-rows, le_of_lt}
use Rattle.numeric_ranges.proofs.ValueLaws.{le_from_lt, lt_trans, lt_le_trans}

abbrev pub Entry : Type 0
Entry = ℕ × NumHit

both : (a b : Bool) → (a && b) ≡ true → (a ≡ true) × (b ≡ true)
both true true h = (refl, refl)
both true false h = absurd (false≢true h)
both false b h = absurd (false≢true h)

join : (a b : Bool) → a ≡ true → b ≡ true → (a && b) ≡ true
join a b h g = rw (h, g) refl

lacks_left : (a b : Bool) → a ≡ false → (a && b) ≡ false
lacks_left a b h = rw h refl

lacks_right : (a b : Bool) → b ≡ false → (a && b) ≡ false
lacks_right true b h = h
lacks_right false b h = refl

-- ---- each element
module _ {X : Type 0} where
  pub all_weaker : (P Q : X → Type 0) → ((x : X) → P x → Q x) → (xs : List X) → AllByRecursion P xs → AllByRecursion Q xs
  all_weaker P Q f [] h = tt
  all_weaker P Q f (x ∷ xs) h = (f x h.0, all_weaker P Q f xs h.1)

  pub all_push : (P : X → Type 0) (xs : List X) (x : X) → AllByRecursion P xs → P x → AllByRecursion P (xs ++ x ∷ [])
  all_push P [] x h p = (p, tt)
  all_push P (y ∷ xs) x h p = (h.0, all_push P xs x h.1 p)

  pub all_set : (P : X → Type 0) (xs : List X) (k : ℕ) (x : X) → AllByRecursion P xs → P x → AllByRecursion P (set xs k x)
  all_set P [] k x h p = tt
  all_set P (y ∷ xs) zero x h p = (p, h.1)
  all_set P (y ∷ xs) (suc k) x h p = (h.0, all_set P xs k x h.1 p)

  pub all_insert : (P : X → Type 0) (xs : List X) (k : ℕ) (x : X) → AllByRecursion P xs → P x → AllByRecursion P (insert xs k x)
  all_insert P xs zero x h p = (p, h)
  all_insert P [] (suc k) x h p = (p, tt)
  all_insert P (y ∷ xs) (suc k) x h p = (h.0, all_insert P xs k x h.1 p)

  pub all_at : (P : X → Type 0) (xs : List X) (k : ℕ) (d : X) → AllByRecursion P xs → k < length xs → P (get_or xs k d)
  all_at P [] k d h less = absurd (omega (arith, less))
  all_at P (x ∷ xs) zero d h less = h.0
  all_at P (x ∷ xs) (suc k) d h less = all_at P xs k d h.1 (omega (arith, less))

  pub all_filter : (p : X → Bool) (P Q : X → Type 0) → ((x : X) → P x → p x ≡ true → Q x) → (xs : List X) → AllByRecursion P xs → AllByRecursion Q (filter p xs)
  all_filter p P Q f [] h = tt
  all_filter p P Q f (x ∷ xs) h =
      elim (cases_Bool (p x)) [
        | inl y ↦ rw y (f x h.0 y, all_filter p P Q f xs h.1)
        | inr n ↦ rw n (all_filter p P Q f xs h.1)
      ]

  -- a filter of a filter
  pub filter_both : (p q r : X → Bool) → ((x : X) → (q x && p x) ≡ r x) → (xs : List X) → filter p (filter q xs) ≡ filter r xs
  filter_both p q r f [] = refl
  filter_both p q r f (x ∷ xs) =
      elim (cases_Bool (q x)) [
        | inl y ↦ elim (cases_Bool (p x)) [
          | inl z ↦ rw (y, z, sym (f x) ∙ join (q x) (p x) y z) (ap (λ rest. x ∷ rest) (filter_both p q r f xs))
          | inr n ↦ rw (y, n, sym (f x) ∙ lacks_right (q x) (p x) n) (filter_both p q r f xs)
        ]
        | inr n ↦ rw (n, sym (f x) ∙ lacks_left (q x) (p x) n) (filter_both p q r f xs)
      ]

  pub filter_yes : (p : X → Bool) (xs : List X) (x : X) → p x ≡ true → filter p (xs ++ x ∷ []) ≡ filter p xs ++ x ∷ []
  filter_yes p xs x h = filter-append p xs (x ∷ []) ∙ ap (λ b. filter p xs ++ cond b (x ∷ []) []) h

  pub filter_no : (p : X → Bool) (xs : List X) (x : X) → p x ≡ false → filter p (xs ++ x ∷ []) ≡ filter p xs
  filter_no p xs x h = filter-append p xs (x ∷ []) ∙ (ap (λ b. filter p xs ++ cond b (x ∷ []) []) h ∙ append-nil (filter p xs))

-- ---- rows
-- An entry goes into rows: what they are then, and what stays true of them.
pub record Grown (old new : Rows) (id : ℕ) (hit : NumHit) (markers : Markers) : Type 0 where
  pub ok : new ≡ added old id hit.value markers
  pub lows : LowsRise new
  pub lie : EntriesLie new
  pub first : low_of new ≡ low_of old
  pub parts : (es : Entries) → AreParted es old → AreParted (es ++ (id, hit) ∷ []) new

-- a value below all rows is in none
parted_same : (rows : Rows) (es : Entries) (id : ℕ) (hit : NumHit) → LowsRise rows → is_below (low_of rows) hit.value ≡ true → AreParted es rows → AreParted (es ++ (id, hit) ∷ []) rows
parted_same [] es id hit rise below p = tt
parted_same (row ∷ rows) es id hit rise below p =
    let out = lacks_left (int_le row.0 hit.value) (is_below (low_of rows) hit.value) (le_from_lt hit.value row.0 below) in (
      p.0 ∙ sym (filter_no (λ (e : Entry). lies_in row.0 (low_of rows) e.1.value) es (id, hit) out),
      parted_same rows es id hit rise.1 (below_more hit.value row rows rise below) p.1,
    )
  where
    below_more : (v : ℤ) (row : ℤ × Listing NumHit) (rows : Rows) → LowsRise (row ∷ rows) → int_lt v row.0 ≡ true → is_below (low_of rows) v ≡ true
    below_more v row [] rise h = refl
    below_more v row (next ∷ rows) rise h = lt_trans v row.0 next.0 h rise.0

-- an entry goes into a later row
grown_later : (row : ℤ × Listing NumHit) (rows new : Rows) (id : ℕ) (hit : NumHit) (markers : Markers) → LowsRise (row ∷ rows) → EntriesLie (row ∷ rows)
    → is_below (low_of rows) hit.value ≡ false → Grown rows new id hit markers → Grown (row ∷ rows) (row ∷ new) id hit markers
grown_later row rows new id hit markers rise lie beyond g = record {
  ok = ap (λ (rest : Rows). row ∷ rest) g.ok
      ∙ sym (ap {B = Rows} (λ b. cond b (parts_of row.0 (with_entry row.1 id hit) markers ++ rows) (row ∷ added rows id hit.value markers)) beyond);
  lows = (subst (λ (low : Option ℤ). is_below low row.0 ≡ true) (sym g.first) rise.0, g.lows);
  lie = (subst (λ (low : Option ℤ). AllByRecursion (λ (e : Entry). IsTrue (lies_in row.0 low e.1.value)) row.1.entries) (sym g.first) lie.0, g.lie);
  first = refl;
  parts = λ es p.
      let out = lacks_right (int_le row.0 hit.value) (is_below (low_of rows) hit.value) beyond in (
        subst (λ (low : Option ℤ). row.1.entries ≡ filter (λ (e : Entry). lies_in row.0 low e.1.value) (es ++ (id, hit) ∷ [])) (sym g.first)
            (p.0 ∙ sym (filter_no (λ (e : Entry). lies_in row.0 (low_of rows) e.1.value) es (id, hit) out)),
        g.parts es p.1,
      );
}

here_le : (v : ℤ) (row : ℤ × Listing NumHit) (rows : Rows) (n : ℕ) → reach v (row ∷ rows) ≡ suc n → int_le row.0 v ≡ true
here_le v row rows n h = elim (cases_Bool (int_le row.0 v)) [
  | inl y ↦ y
  | inr m ↦ absurd (omega (arith, h, reach_no v row rows m))
]

reach_rest : (v : ℤ) (row : ℤ × Listing NumHit) (rows : Rows) (n : ℕ) → reach v (row ∷ rows) ≡ suc n → reach v rows ≡ n
reach_rest v row rows n h = omega (arith, h, reach_yes v row rows (here_le v row rows n h))

pub grown_plain : (rows : Rows) (at id : ℕ) (hit : NumHit) (markers : Markers) (d : ℤ × Listing NumHit) → LowsRise rows → EntriesLie rows → reach hit.value rows ≡ suc at
    → splits ((get_or rows at d).1.entries ++ (id, hit) ∷ []) ≡ false → Grown rows (set rows at ((get_or rows at d).0, with_entry (get_or rows at d).1 id hit)) id hit markers
grown_plain [] at id hit markers d rise lie here whole = absurd (omega (arith, here))
grown_plain (row ∷ rows) zero id hit markers d rise lie here whole =
    let below = below_none hit.value rows (reach_rest hit.value row rows zero here) in
    let lies = join (int_le row.0 hit.value) (is_below (low_of rows) hit.value) (here_le hit.value row rows zero here) below in
    let list = with_entry row.1 id hit in
    let cut = cut_of (values list.entries) in
    record {
      ok = sym (ap {B = Rows} (λ b. cond b (parts_of row.0 list markers ++ rows) (row ∷ added rows id hit.value markers)) below
          ∙ ap {B = Rows} (λ b. cond b ((row.0, left_half cut list.entries markers) ∷ (cut, right_half cut list.entries markers) ∷ []) ((row.0, list) ∷ []) ++ rows) whole);
      lows = rise;
      lie = (all_push (λ (e : Entry). IsTrue (lies_in row.0 (low_of rows) e.1.value)) row.1.entries (id, hit) lie.0 lies, lie.1);
      first = refl;
      parts = λ es p. (
        ap (λ (xs : Entries). xs ++ (id, hit) ∷ []) p.0 ∙ sym (filter_yes (λ (e : Entry). lies_in row.0 (low_of rows) e.1.value) es (id, hit) lies),
        parted_same rows es id hit rise.1 below p.1,
      );
    }
grown_plain (row ∷ rows) (suc at) id hit markers d rise lie here whole =
    let rest = reach_rest hit.value row rows (suc at) here in
    grown_later row rows _ id hit markers rise lie (below_some hit.value rows at rest)
    (grown_plain rows at id hit markers d rise.1 lie.1 rest whole)

-- what is true of each value is true of one of them
value_lies : (p : ℤ → Bool) (es : Entries) (v : ℤ) (k : ℕ) → AllByRecursion (λ (e : Entry). IsTrue (p e.1.value)) es → k < length (values es) → get_or (values es) k v ≡ v → p v ≡ true
value_lies p [] v k all less is = absurd (omega (arith, less))
value_lies p (e ∷ es) v zero all less is = subst (λ (w : ℤ). p w ≡ true) is all.0
value_lies p (e ∷ es) v (suc k) all less is = value_lies p es v k all.1 (omega (arith, less)) is

-- the tests of the two halves
left_test : (low cut v : ℤ) (next : Option ℤ) → is_below next cut ≡ true → (lies_in low next v && int_lt v cut) ≡ lies_in low (Some cut) v
left_test low cut v next h =
    elim (cases_Bool (int_lt v cut)) [
      | inl y ↦ rw (y, below_under next v cut y h) (and_one (int_le low v && true) ∙ refl)
      | inr n ↦ lacks_right (lies_in low next v) (int_lt v cut) n ∙ sym (lacks_right (int_le low v) (int_lt v cut) n)
    ]
  where
    and_one : (b : Bool) → (b && true) ≡ b
    and_one true = refl
    and_one false = refl

    below_under : (next : Option ℤ) (v cut : ℤ) → int_lt v cut ≡ true → is_below next cut ≡ true → is_below next v ≡ true
    below_under None v cut y h = refl
    below_under (Some n) v cut y h = lt_trans v cut n y h

right_test : (low cut v : ℤ) (next : Option ℤ) → int_lt low cut ≡ true → (lies_in low next v && int_le cut v) ≡ lies_in cut next v
right_test low cut v next h =
    elim (cases_Bool (int_le cut v)) [
      | inl y ↦ rw (y, upto low cut v h y) (and_one (is_below next v))
      | inr n ↦ lacks_right (lies_in low next v) (int_le cut v) n ∙ sym (lacks_left (int_le cut v) (is_below next v) n)
    ]
  where
    and_one : (b : Bool) → (b && true) ≡ b
    and_one true = refl
    and_one false = refl

    upto : (low cut v : ℤ) → int_lt low cut ≡ true → int_le cut v ≡ true → int_le low v ≡ true
    upto low cut v h y = le_of_lt low v (lt_le_trans low cut v h y)

lt_of : (a b : ℤ) → a <ℤ b → int_lt a b ≡ true
lt_of a b h = grind (arith, ints)

pub grown_split : (rows : Rows) (at id : ℕ) (hit : NumHit) (markers : Markers) (d : ℤ × Listing NumHit) → LowsRise rows → EntriesLie rows → reach hit.value rows ≡ suc at
    → splits ((get_or rows at d).1.entries ++ (id, hit) ∷ []) ≡ true
    → IsInside (cut_of (values ((get_or rows at d).1.entries ++ (id, hit) ∷ []))) (values ((get_or rows at d).1.entries ++ (id, hit) ∷ []))
    → Grown rows (set (insert rows (suc at) (
      cut_of (values ((get_or rows at d).1.entries ++ (id, hit) ∷ [])),
      right_half (cut_of (values ((get_or rows at d).1.entries ++ (id, hit) ∷ []))) ((get_or rows at d).1.entries ++ (id, hit) ∷ []) markers,
    )) at
    ((get_or rows at d).0, left_half (cut_of (values ((get_or rows at d).1.entries ++ (id, hit) ∷ []))) ((get_or rows at d).1.entries ++ (id, hit) ∷ []) markers)) id hit markers
grown_split [] at id hit markers d rise lie here splits inside = absurd (omega (arith, here))
grown_split (row ∷ rows) zero id hit markers d rise lie here parted inside =
    let next = low_of rows in
    let below = below_none hit.value rows (reach_rest hit.value row rows zero here) in
    let lies = join (int_le row.0 hit.value) (is_below next hit.value) (here_le hit.value row rows zero here) below in
    let list = with_entry row.1 id hit in
    let xs = row.1.entries ++ (id, hit) ∷ [] in
    let cut = cut_of (values xs) in
    let all : AllByRecursion (λ (e : Entry). IsTrue (lies_in row.0 next e.1.value)) xs = all_push (λ (e : Entry). IsTrue (lies_in row.0 next e.1.value)) row.1.entries (id, hit) lie.0 lies in
    let cut_lies = both (int_le row.0 cut) (is_below next cut) (value_lies (lies_in row.0 next) xs cut inside.member.0 all inside.member.1 inside.member.2) in
    let other_lies = both (int_le row.0 inside.other) (is_below next inside.other) (value_lies (lies_in row.0 next) xs inside.other inside.among.0 all inside.among.1 inside.among.2) in
    let low_cut : int_lt row.0 cut ≡ true = le_lt row.0 inside.other cut other_lies.0 (lt_of inside.other cut inside.above) in
    record {
      ok = sym (ap {B = Rows} (λ b. cond b (parts_of row.0 list markers ++ rows) (row ∷ added rows id hit.value markers)) below
          ∙ ap {B = Rows} (λ b. cond b ((row.0, left_half cut xs markers) ∷ (cut, right_half cut xs markers) ∷ []) ((row.0, list) ∷ []) ++ rows) parted);
      lows = (low_cut, (cut_lies.1, rise.1));
      lie = (
        all_filter (λ (e : Entry). int_lt e.1.value cut) (λ (e : Entry). IsTrue (lies_in row.0 next e.1.value)) (λ (e : Entry). IsTrue (lies_in row.0 (Some cut) e.1.value))
            (λ e h less. sym (left_test row.0 cut e.1.value next cut_lies.1) ∙ join (lies_in row.0 next e.1.value) (int_lt e.1.value cut) h less) xs all,
        (
          all_filter (λ (e : Entry). int_le cut e.1.value) (λ (e : Entry). IsTrue (lies_in row.0 next e.1.value)) (λ (e : Entry). IsTrue (lies_in cut next e.1.value))
              (λ e h more. sym (right_test row.0 cut e.1.value next low_cut) ∙ join (lies_in row.0 next e.1.value) (int_le cut e.1.value) h more) xs all,
          lie.1,
        ),
      );
      first = refl;
      parts = λ es p.
          let whole : xs ≡ filter (λ (e : Entry). lies_in row.0 next e.1.value) (es ++ (id, hit) ∷ []) =
          ap (λ (ys : Entries). ys ++ (id, hit) ∷ []) p.0 ∙ sym (filter_yes (λ (e : Entry). lies_in row.0 next e.1.value) es (id, hit) lies) in (
            ap (λ (ys : Entries). filter (λ (e : Entry). int_lt e.1.value cut) ys) whole
                ∙ filter_both (λ (e : Entry). int_lt e.1.value cut) (λ (e : Entry). lies_in row.0 next e.1.value) (λ (e : Entry). lies_in row.0 (Some cut) e.1.value)
                (λ e. left_test row.0 cut e.1.value next cut_lies.1) (es ++ (id, hit) ∷ []),
            (
              ap (λ (ys : Entries). filter (λ (e : Entry). int_le cut e.1.value) ys) whole
                  ∙ filter_both (λ (e : Entry). int_le cut e.1.value) (λ (e : Entry). lies_in row.0 next e.1.value) (λ (e : Entry). lies_in cut next e.1.value)
                  (λ e. right_test row.0 cut e.1.value next low_cut) (es ++ (id, hit) ∷ []),
              parted_same rows es id hit rise.1 below p.1,
            ),
          );
    }
  where
    le_lt : (a b c : ℤ) → int_le a b ≡ true → int_lt b c ≡ true → int_lt a c ≡ true
    le_lt a b c h g = grind (arith, ints)
grown_split (row ∷ rows) (suc at) id hit markers d rise lie here parted inside =
    let rest = reach_rest hit.value row rows (suc at) here in
    grown_later row rows _ id hit markers rise lie (below_some hit.value rows at rest)
    (grown_split rows at id hit markers d rise.1 lie.1 rest parted inside)

-- ---- the rows of the code
-- An entry goes into rows of the code.
pub record AddsWell (old new : List Row) (id : ℕ) (hit : NumHit) (markers : Markers) : Type 0 where
  pub ok : rows_of new ≡ added (rows_of old) id hit.value markers
  pub held : Held new
  pub more : entries_in_rows (rows_of new) ≡ entries_in_rows (rows_of old) + 1
  pub parts : (es : Entries) → AreParted es (rows_of old) → AreParted (es ++ (id, hit) ∷ []) (rows_of new)

pub insert_seen : (items : List Row) (k : ℕ) (row : Row) → rows_of (insert items k row) ≡ insert (rows_of items) k (seen row)
insert_seen items zero row = refl
insert_seen [] (suc k) row = refl
insert_seen (item ∷ items) (suc k) row = ap (λ (rest : Rows). seen item ∷ rest) (insert_seen items k row)

ids_seen : (items : List Row) → AllByRecursion (λ (row : ℤ × Listing NumHit). RisesAbove 0 row.1.entries) (rows_of items) → AllByRecursion (λ (row : Row). RisesAbove 0 row.list.entries) items
ids_seen [] h = tt
ids_seen (row ∷ items) h = (h.0, ids_seen items h.1)

seen_ids : (items : List Row) → AllByRecursion (λ (row : Row). RisesAbove 0 row.list.entries) items → AllByRecursion (λ (row : ℤ × Listing NumHit). RisesAbove 0 row.1.entries) (rows_of items)
seen_ids [] h = tt
seen_ids (row ∷ items) h = (h.0, seen_ids items h.1)

pub ids_at : (items : List Row) (k : ℕ) (row : Row) → Held items → k < length items → row ≡ get_or items k row → RisesAbove 0 row.list.entries
ids_at items k row held less is =
    subst (λ (r : Row). RisesAbove 0 r.list.entries) (sym is) (all_at (λ (r : Row). RisesAbove 0 r.list.entries) items k row (ids_seen items held.partition.ids) less)

pub above_at : (items : List Row) (k : ℕ) (row : Row) (id : ℕ) → AllByRecursion (λ (r : ℤ × Listing NumHit). last_id 0 r.1.entries < id) (rows_of items) → k < length items → row ≡ get_or items k row
    → last_id 0 row.list.entries < id
above_at items k row id above less is =
    subst (λ (r : ℤ × Listing NumHit). last_id 0 r.1.entries < id) (row_seen items k (seen row) row less is)
    (all_at (λ (r : ℤ × Listing NumHit). last_id 0 r.1.entries < id) (rows_of items) k (seen row) above (omega (arith, less, length-rows items)))

-- from what is true of the rows that contracts see
well_from : (old new : List Row) (rows : Rows) (id : ℕ) (hit : NumHit) (markers : Markers) → rows_of new ≡ rows → Held old → Grown (rows_of old) rows id hit markers
    → AllByRecursion (λ (r : Row). RisesAbove 0 r.list.entries) new → AllByRecursion (λ (r : Row). Knows r.spread r.list.entries) new → AddsWell old new id hit markers
well_from old new rows id hit markers same held g ids knows = record {
  ok = same ∙ g.ok;
  held = record {
    partition = record {
      first = ap low_of same ∙ (g.first ∙ held.partition.first);
      lows = subst LowsRise (sym same) g.lows;
      ids = seen_ids new ids;
      lie = subst EntriesLie (sym same) g.lie;
    };
    known = knows;
  };
  more = ap entries_in_rows (same ∙ g.ok) ∙ count_added (rows_of old) id hit.value markers _ held.partition.first;
  parts = λ es p. subst (λ (r : Rows). AreParted (es ++ (id, hit) ∷ []) r) (sym same) (g.parts es p);
}

pub add_plain : (items : List Row) (at id : ℕ) (hit : NumHit) (markers : Markers) (row new : Row) → Held items → reach hit.value (rows_of items) ≡ suc at → at < length items
    → row ≡ get_or items at row → splits (row.list.entries ++ (id, hit) ∷ []) ≡ false → last_id 0 row.list.entries < id
    → new.low ≡ row.low → new.list ≡ with_entry row.list id hit → Knows new.spread (row.list.entries ++ (id, hit) ∷ []) → AddsWell items (set items at new) id hit markers
add_plain items at id hit markers row new held here less is whole above low list knows =
    let seen_here = row_seen items at (seen row) row less is in
    let P : ℤ × Listing NumHit → Type 0 = λ r. Grown (rows_of items) (set (rows_of items) at (r.0, with_entry r.1 id hit)) id hit markers in
    let g = subst P seen_here (grown_plain (rows_of items) at id hit markers (seen row) held.partition.lows held.partition.lie here
    (subst (λ (r : ℤ × Listing NumHit). splits (r.1.entries ++ (id, hit) ∷ []) ≡ false) (sym seen_here) whole)) in
    let pair : seen new ≡ (row.low, with_entry row.list id hit) = ap {B = ℤ × Listing NumHit} (λ (v : ℤ). (v, new.list)) low ∙ ap {B = ℤ × Listing NumHit} (λ (l : Listing NumHit). (row.low, l)) list in
    let same : rows_of (set items at new) ≡ set (rows_of items) at (row.low, with_entry row.list id hit) = map-set seen items at new ∙ ap (set (rows_of items) at) pair in
    let entries : new.list.entries ≡ row.list.entries ++ (id, hit) ∷ [] = ap (λ (l : Listing NumHit). l.entries) list in
    well_from items (set items at new) _ id hit markers same held g
    (all_set (λ (r : Row). RisesAbove 0 r.list.entries) items at new (ids_seen items held.partition.ids)
    (subst (λ (es : Entries). RisesAbove 0 es) (sym entries) (rises_push 0 id hit row.list.entries (ids_at items at row held less is) above)))
    (all_set (λ (r : Row). Knows r.spread r.list.entries) items at new held.known (subst (λ (es : Entries). Knows new.spread es) (sym entries) knows))

pub add_split : (items : List Row) (at id : ℕ) (hit : NumHit) (markers : Markers) (row left right : Row) → Held items → reach hit.value (rows_of items) ≡ suc at → at < length items
    → row ≡ get_or items at row → splits (row.list.entries ++ (id, hit) ∷ []) ≡ true → last_id 0 row.list.entries < id
    → AreHalves row (row.list.entries ++ (id, hit) ∷ []) markers left right → AddsWell items (set (insert items (suc at) right) at left) id hit markers
add_split items at id hit markers row left right held here less is parted above h =
    let seen_here = row_seen items at (seen row) row less is in
    let xs = row.list.entries ++ (id, hit) ∷ [] in
    let cut = cut_of (values xs) in
    let P : ℤ × Listing NumHit → Type 0 = λ r. Grown (rows_of items)
    (set (insert (rows_of items) (suc at) (cut_of (values (r.1.entries ++ (id, hit) ∷ [])), right_half (cut_of (values (r.1.entries ++ (id, hit) ∷ []))) (r.1.entries ++ (id, hit) ∷ []) markers)) at
    (r.0, left_half (cut_of (values (r.1.entries ++ (id, hit) ∷ []))) (r.1.entries ++ (id, hit) ∷ []) markers)) id hit markers in
    let g = subst P seen_here (grown_split (rows_of items) at id hit markers (seen row) held.partition.lows held.partition.lie here
    (subst (λ (r : ℤ × Listing NumHit). splits (r.1.entries ++ (id, hit) ∷ []) ≡ true) (sym seen_here) parted)
    (subst (λ (r : ℤ × Listing NumHit). IsInside (cut_of (values (r.1.entries ++ (id, hit) ∷ []))) (values (r.1.entries ++ (id, hit) ∷ []))) (sym seen_here) h.inside)) in
    let one : seen left ≡ (row.low, left_half cut xs markers) = ap {B = ℤ × Listing NumHit} (λ (v : ℤ). (v, left.list)) h.low ∙ ap {B = ℤ × Listing NumHit} (λ (l : Listing NumHit). (row.low, l)) h.left_list in
    let two : seen right ≡ (cut, right_half cut xs markers) = ap {B = ℤ × Listing NumHit} (λ (v : ℤ). (v, right.list)) h.cut ∙ ap {B = ℤ × Listing NumHit} (λ (l : Listing NumHit). (cut, l)) h.right_list in
    let same : rows_of (set (insert items (suc at) right) at left) ≡ set (insert (rows_of items) (suc at) (cut, right_half cut xs markers)) at (row.low, left_half cut xs markers) =
    map-set seen (insert items (suc at) right) at left
    ∙ (ap (λ (rs : Rows). set rs at (seen left)) (insert_seen items (suc at) right ∙ ap (insert (rows_of items) (suc at)) two)
    ∙ ap (set (insert (rows_of items) (suc at) (cut, right_half cut xs markers)) at) one) in
    let rises = rises_push 0 id hit row.list.entries (ids_at items at row held less is) above in
    let left_rises : RisesAbove 0 left.list.entries = subst (λ (l : Listing NumHit). RisesAbove 0 l.entries) (sym h.left_list) (rises_filter (λ e. int_lt e.1.value cut) 0 xs rises) in
    let right_rises : RisesAbove 0 right.list.entries = subst (λ (l : Listing NumHit). RisesAbove 0 l.entries) (sym h.right_list) (rises_filter (λ e. int_le cut e.1.value) 0 xs rises) in
    well_from items (set (insert items (suc at) right) at left) _ id hit markers same held g
    (all_set (λ (r : Row). RisesAbove 0 r.list.entries) (insert items (suc at) right) at left
    (all_insert (λ (r : Row). RisesAbove 0 r.list.entries) items (suc at) right (ids_seen items held.partition.ids) right_rises) left_rises)
    (all_set (λ (r : Row). Knows r.spread r.list.entries) (insert items (suc at) right) at left
    (all_insert (λ (r : Row). Knows r.spread r.list.entries) items (suc at) right held.known h.knows_right) h.knows_left)

-- ---- the row that a value goes into
min_le : (v : ℤ) → SFits w64 v → int_le (negsuc 9223372036854775807) v ≡ true
min_le v f = grind (arith, ints)

first_reached : (rows : Rows) (v : ℤ) → low_of rows ≡ Some (negsuc 9223372036854775807) → SFits w64 v → 0 < reach v rows
first_reached [] v first f = cc
first_reached (row ∷ rows) v first f =
    let same : row.0 ≡ negsuc 9223372036854775807 = cc in
    omega (arith, reach_yes v row rows (subst (λ (n : ℤ). int_le n v ≡ true) (sym same) (min_le v f)))

pub reached_first : (items slice : List Row) (v : ℤ) (n : ℕ) → slice ≡ items → n ≡ reach (to_z w64 (of_z w64 v)) (rows_of slice) → SFits w64 v → Held items → 0 < n
reached_first items slice v n same is f held =
    omega (arith, is ∙ (ap (λ (w : ℤ). reach w (rows_of slice)) (to_z-of_z w64 v f) ∙ ap (λ (xs : List Row). reach v (rows_of xs)) same), first_reached (rows_of items) v held.partition.first f)

pub reached_at : (items slice : List Row) (v : ℤ) (n : ℕ) → slice ≡ items → n ≡ reach (to_z w64 (of_z w64 v)) (rows_of slice) → n ≤ length slice → SFits w64 v → Held items
    → (reach v (rows_of items) ≡ suc (n - 1)) × (n - 1 < length items)
reached_at items slice v n same is within f held =
    let here : n ≡ reach v (rows_of items) = is ∙ (ap (λ (w : ℤ). reach w (rows_of slice)) (to_z-of_z w64 v f) ∙ ap (λ (xs : List Row). reach v (rows_of xs)) same) in
    let some = first_reached (rows_of items) v held.partition.first f in
    let long : length slice ≡ length items = ap length same in
    (omega (arith, here, some), omega (arith, here, some, within, long))

pub row_same : (items : List Row) (at : ℕ) (row other : Row) → at < length items → row ≡ get_or items at row → other ≡ get_or items at other → row ≡ other
row_same items at row other less is also = is ∙ (get_or_default items at row other less ∙ sym also)
