-- Cursors in order of ids: what is done to each can be done before they are put in order.
use Rattle.std.proofs.Common.{◌≡◌, ℕ, suc, ◌+◌, ◌≤◌, ◌<◌, Bool, true, false, List, [], ◌∷◌, ◌++◌, map, length, refl, sym, ap, ◌∙◌, inl, inr, arith}
use Rattle.std.specs.Prelude.{⊤, filter, nat_lt}
use Rattle.std.specs.List.{AllByRecursion, find}
use Rattle.std.proofs.lemmas.Bool.{and_parts, cases_Bool, eqb-true, le-ltb, lt-ltb, ltb-false, ltb-true}
use Rattle.cursor_book.specs.declared.cursor.Cursor.{Cursor}
use Rattle.cursor_book.specs.Cursors.{has_id, is_cursor, is_of}
use Rattle.cursor_book.specs.Shelved.{by_id, placed}
use Rattle.cursor_book.proofs.EachLaws.{each-filter, each-passes, each-weaker, find-kept}

abbrev AtLeast : ℕ → List Cursor → Type 0
AtLeast id cursors = AllByRecursion (λ cursor. id ≤ cursor.id) cursors

abbrev Rises : List Cursor → Type 0
Rises [] = ⊤
Rises (cursor ∷ cursors) = AtLeast cursor.id cursors × Rises cursors

each-placed : (P : Cursor → Type 0) (cursor : Cursor) (cursors : List Cursor) → P cursor → AllByRecursion P cursors → AllByRecursion P (placed cursor cursors)
each-placed P cursor [] this all = (this, tt)
each-placed P cursor (first ∷ cursors) this all =
    elim (cases_Bool (nat_lt first.id cursor.id)) [
      | inl less ↦ rw less (all.0, each-placed P cursor cursors this all.1)
      | inr behind ↦ rw behind (this, all)
    ]

each-unplaced : (P : Cursor → Type 0) (cursor : Cursor) (cursors : List Cursor) → AllByRecursion P (placed cursor cursors) → P cursor × AllByRecursion P cursors
each-unplaced P cursor [] all = (all.0, tt)
each-unplaced P cursor (first ∷ cursors) all =
    elim (cases_Bool (nat_lt first.id cursor.id)) [
      | inl less ↦
          let parts = rw less at all in
          let rest = each-unplaced P cursor cursors parts.1 in
          (rest.0, (parts.0, rest.1))
      | inr behind ↦ let parts = rw behind at all in (parts.0, parts.1)
    ]

pub each-from-order : (P : Cursor → Type 0) (cursors : List Cursor) → AllByRecursion P (by_id cursors) → AllByRecursion P cursors
each-from-order P [] all = tt
each-from-order P (cursor ∷ cursors) all =
    let parts = each-unplaced P cursor (by_id cursors) all in (parts.0, each-from-order P cursors parts.1)

pub each-in-order : (P : Cursor → Type 0) (cursors : List Cursor) → AllByRecursion P cursors → AllByRecursion P (by_id cursors)
each-in-order P [] all = tt
each-in-order P (cursor ∷ cursors) all = each-placed P cursor (by_id cursors) all.0 (each-in-order P cursors all.1)

rises-placed : (cursor : Cursor) (cursors : List Cursor) → Rises cursors → Rises (placed cursor cursors)
rises-placed cursor [] rises = (tt, tt)
rises-placed cursor (first ∷ cursors) rises =
    elim (cases_Bool (nat_lt first.id cursor.id)) [
      | inl less ↦
          let below : first.id ≤ cursor.id = omega (arith, ltb-true first.id cursor.id less) in
          rw less (each-placed (λ other. first.id ≤ other.id) cursor cursors below rises.0, rises-placed cursor cursors rises.1)
      | inr behind ↦
          let below : cursor.id ≤ first.id = ltb-false first.id cursor.id behind in
          rw behind ((below, each-weaker (λ other. first.id ≤ other.id) (λ other. cursor.id ≤ other.id) (λ other above. omega (arith, below, above)) cursors rises.0), rises)
    ]

pub rises-by-id : (cursors : List Cursor) → Rises (by_id cursors)
rises-by-id [] = tt
rises-by-id (cursor ∷ cursors) = rises-placed cursor (by_id cursors) (rises-by-id cursors)

placed-first : (cursor : Cursor) (cursors : List Cursor) → AtLeast cursor.id cursors → placed cursor cursors ≡ cursor ∷ cursors
placed-first cursor [] above = refl
placed-first cursor (first ∷ cursors) above = rw (le-ltb first.id cursor.id above.0) refl

-- ---- a filter

filter-placed-in : (p : Cursor → Bool) (cursor : Cursor) (cursors : List Cursor) → p cursor ≡ true → Rises cursors → filter p (placed cursor cursors) ≡ placed cursor (filter p cursors)
filter-placed-in p cursor [] holds rises = rw holds refl
filter-placed-in p cursor (first ∷ cursors) holds rises =
    elim (cases_Bool (nat_lt first.id cursor.id)) [
      | inl less ↦ elim (cases_Bool (p first)) [
        | inl keeps ↦ rw (less, keeps, less) (ap (λ (rest : List Cursor). first ∷ rest) (filter-placed-in p cursor cursors holds rises.1))
        | inr drops ↦ rw (less, drops) (filter-placed-in p cursor cursors holds rises.1)
      ]
      | inr behind ↦
          let below : cursor.id ≤ first.id = ltb-false first.id cursor.id behind in
          let above : AtLeast cursor.id (first ∷ cursors) =
          (below, each-weaker (λ other. first.id ≤ other.id) (λ other. cursor.id ≤ other.id) (λ other above. omega (arith, below, above)) cursors rises.0) in
          rw (behind, holds) (sym (placed-first cursor (filter p (first ∷ cursors)) (each-filter (λ other. cursor.id ≤ other.id) p (first ∷ cursors) above)))
    ]

filter-placed-out : (p : Cursor → Bool) (cursor : Cursor) (cursors : List Cursor) → p cursor ≡ false → filter p (placed cursor cursors) ≡ filter p cursors
filter-placed-out p cursor [] fails = rw fails refl
filter-placed-out p cursor (first ∷ cursors) fails =
    elim (cases_Bool (nat_lt first.id cursor.id)) [
      | inl less ↦ elim (cases_Bool (p first)) [
        | inl keeps ↦ rw (less, keeps) (ap (λ (rest : List Cursor). first ∷ rest) (filter-placed-out p cursor cursors fails))
        | inr drops ↦ rw (less, drops) (filter-placed-out p cursor cursors fails)
      ]
      | inr behind ↦ rw (behind, fails) refl
    ]

pub filter-by-id : (p : Cursor → Bool) (cursors : List Cursor) → filter p (by_id cursors) ≡ by_id (filter p cursors)
filter-by-id p [] = refl
filter-by-id p (cursor ∷ cursors) =
    elim (cases_Bool (p cursor)) [
      | inl holds ↦ rw holds (filter-placed-in p cursor (by_id cursors) holds (rises-by-id cursors) ∙ ap (placed cursor) (filter-by-id p cursors))
      | inr fails ↦ rw fails (filter-placed-out p cursor (by_id cursors) fails ∙ filter-by-id p cursors)
    ]

-- ---- a change that keeps ids

module _ (f : Cursor → Cursor) (keeps : (cursor : Cursor) → (f cursor).id ≡ cursor.id) where
  map-placed : (cursor : Cursor) (cursors : List Cursor) → map f (placed cursor cursors) ≡ placed (f cursor) (map f cursors)
  map-placed cursor [] = refl
  map-placed cursor (first ∷ cursors) =
      let same : nat_lt (f first).id (f cursor).id ≡ nat_lt first.id cursor.id =
      ap (λ id. nat_lt id (f cursor).id) (keeps first) ∙ ap (λ id. nat_lt first.id id) (keeps cursor) in
      elim (cases_Bool (nat_lt first.id cursor.id)) [
        | inl less ↦ rw (less, same ∙ less) (ap (λ (rest : List Cursor). f first ∷ rest) (map-placed cursor cursors))
        | inr behind ↦ rw (behind, same ∙ behind) refl
      ]

  pub map-by-id : (cursors : List Cursor) → map f (by_id cursors) ≡ by_id (map f cursors)
  map-by-id [] = refl
  map-by-id (cursor ∷ cursors) = map-placed cursor (by_id cursors) ∙ ap (placed (f cursor)) (map-by-id cursors)

-- ---- how many

length-placed : (cursor : Cursor) (cursors : List Cursor) → length (placed cursor cursors) ≡ suc (length cursors)
length-placed cursor [] = refl
length-placed cursor (first ∷ cursors) =
    elim (cases_Bool (nat_lt first.id cursor.id)) [
      | inl less ↦ rw less (ap suc (length-placed cursor cursors))
      | inr behind ↦ rw behind refl
    ]

pub length-by-id : (cursors : List Cursor) → length (by_id cursors) ≡ length cursors
length-by-id [] = refl
length-by-id (cursor ∷ cursors) = length-placed cursor (by_id cursors) ∙ ap suc (length-by-id cursors)

-- ---- the last

pub placed-last : (cursor : Cursor) (cursors : List Cursor) → AllByRecursion (λ (other : Cursor). other.id < cursor.id) cursors → placed cursor cursors ≡ cursors ++ cursor ∷ []
placed-last cursor [] below = refl
placed-last cursor (first ∷ cursors) below = rw (lt-ltb first.id cursor.id below.0) (ap (λ (rest : List Cursor). first ∷ rest) (placed-last cursor cursors below.1))

placed-before : (cursor last : Cursor) (cursors : List Cursor) → cursor.id < last.id → placed cursor (cursors ++ last ∷ []) ≡ placed cursor cursors ++ last ∷ []
placed-before cursor last [] below = rw (le-ltb last.id cursor.id (omega (arith, below))) refl
placed-before cursor last (first ∷ cursors) below =
    elim (cases_Bool (nat_lt first.id cursor.id)) [
      | inl less ↦ rw less (ap (λ (rest : List Cursor). first ∷ rest) (placed-before cursor last cursors below))
      | inr behind ↦ rw behind refl
    ]

-- others may stand before
pub last-behind : (last : Cursor) (xs ys zs : List Cursor) → AllByRecursion (λ (other : Cursor). other.id < last.id) xs → by_id zs ≡ by_id ys ++ last ∷ [] → by_id (xs ++ zs) ≡ by_id (xs ++ ys) ++ last ∷ []
last-behind last [] ys zs below is = is
last-behind last (x ∷ xs) ys zs below is =
    ap (placed x) (last-behind last xs ys zs below.1 is) ∙ placed-before x last (by_id (xs ++ ys)) below.0

-- ---- the one with an id

by-id-same : (id : ℕ) (cursors : List Cursor) → AllByRecursion (λ (cursor : Cursor). cursor.id ≡ id) cursors → by_id cursors ≡ cursors
by-id-same id [] all = refl
by-id-same id (cursor ∷ cursors) all =
    ap (placed cursor) (by-id-same id cursors all.1)
    ∙ placed-first cursor cursors (each-weaker (λ (other : Cursor). other.id ≡ id) (λ other. cursor.id ≤ other.id) (λ other is. omega (arith, is, all.0)) cursors all.1)

pub find-by-id : (serial id : ℕ) (cursors : List Cursor) → find (is_cursor serial id) (by_id cursors) ≡ find (is_cursor serial id) cursors
find-by-id serial id cursors =
    let p : Cursor → Bool = is_cursor serial id in
    let same : AllByRecursion (λ (cursor : Cursor). cursor.id ≡ id) (filter p cursors) =
    each-weaker (λ cursor. p cursor ≡ true) (λ (cursor : Cursor). cursor.id ≡ id) (λ cursor is. eqb-true cursor.id id (and_parts (is_of serial cursor) (has_id id cursor) is).1) (filter p cursors) (each-passes p cursors) in
    sym (find-kept p (by_id cursors))
    ∙ ap (find p) (filter-by-id p cursors ∙ by-id-same id (filter p cursors) same)
    ∙ find-kept p cursors
