-- The cursor that waits stands last in the book, and the ids of all cursors are numbers of earlier events.
use Rattle.std.specs.Prelude.{◌≡◌, ◌<◌, ◌≤◌, ◌+◌, ℕ, Bool, true, false, not, List, [], ◌∷◌, ◌++◌, filter, Option, None, Some, option_to_list, refl}
use Rattle.std.specs.List.{AllByRecursion}
use Rattle.std.proofs.Common.{sym, ap, ◌∙◌, subst, inl, inr, arith}
use Rattle.std.proofs.lemmas.Bool.{and_parts, cases_Bool, eqb-true, eq-eqb}
use Rattle.std.proofs.lemmas.List.{append-nil}
use Rattle.cursor_book.specs.Cursors.{cursor_of, has_id, is_cursor, is_of, live, read, read_one, without}
use Rattle.cursor_book.specs.declared.cursor.Cursor.{Cursor}
use Rattle.cursor_book.specs.declared.cursor.Taken.{Taken}
use Rattle.indexed_store.specs.Holding.{IsBook, seen, waiting}
use Rattle.indexed_store.specs.declared.waiting.CursorPlace.{CursorPlace}

-- the ids of the cursors are below a number
abbrev pub AreBelow : ℕ → List Cursor → Type 0
AreBelow next cursors = AllByRecursion (λ (cursor : Cursor). cursor.id < next) cursors

-- and so below a greater one
pub below-until : (n m : ℕ) (cursors : List Cursor) → n ≤ m → AreBelow n cursors → AreBelow m cursors
below-until n m [] more below = tt
below-until n m (cursor ∷ cursors) more below = (omega (arith, more, below.0), below-until n m cursors more below.1)

-- so are those of some of them
pub below-filter : (next : ℕ) (p : Cursor → Bool) (cursors : List Cursor) → AreBelow next cursors → AreBelow next (filter p cursors)
below-filter next p [] below = tt
below-filter next p (cursor ∷ cursors) below = elim (cases_Bool (p cursor)) [
  | inl y ↦ rw y (below.0, below-filter next p cursors below.1)
  | inr n ↦ rw n (below-filter next p cursors below.1)
]

-- and of one more
pub below-more : (next : ℕ) (cursor : Cursor) (cursors : List Cursor) → cursor.id < next → AreBelow next cursors → AreBelow next (cursors ++ cursor ∷ [])
below-more next cursor [] here below = (here, tt)
below-more next cursor (first ∷ cursors) here below = (below.0, below-more next cursor cursors here below.1)

-- a read keeps a cursor's id
read-id : (serial id now : ℕ) (taken : Taken) (cursor : Cursor) → (read_one serial id now taken cursor).id ≡ cursor.id
read-id serial id now taken cursor = elim (cases_Bool (is_cursor serial id cursor)) [
  | inl y ↦ rw y refl
  | inr n ↦ rw n refl
]

pub below-read : (next serial id now : ℕ) (taken : Taken) (cursors : List Cursor) → AreBelow next cursors → AreBelow next (read serial id now taken cursors)
below-read next serial id now taken [] below = tt
below-read next serial id now taken (cursor ∷ cursors) below =
    (omega (arith, read-id serial id now taken cursor, below.0), below-read next serial id now taken cursors below.1)

-- ---- the last of them

-- a cursor of an id below is another one
is-other : (serial id : ℕ) (cursor : Cursor) → cursor.id < id → is_cursor serial id cursor ≡ false
is-other serial id cursor less = elim (cases_Bool (is_cursor serial id cursor)) [
  | inl y ↦ absurd (omega (arith, less, eqb-true cursor.id id (and_parts (is_of serial cursor) (has_id id cursor) y).1))
  | inr n ↦ n
]

is-this : (cursor : Cursor) → is_cursor cursor.serial cursor.id cursor ≡ true
is-this cursor = rw (eq-eqb cursor.serial cursor.serial refl, eq-eqb cursor.id cursor.id refl) refl

-- one behind all others is found
pub found-last : (cursor : Cursor) (cursors : List Cursor) → AreBelow cursor.id cursors → cursor_of cursor.serial cursor.id (cursors ++ cursor ∷ []) ≡ Some cursor
found-last cursor [] below = rw (is-this cursor) refl
found-last cursor (first ∷ cursors) below = rw (is-other cursor.serial cursor.id first below.0) (found-last cursor cursors below.1)

-- and without it the others are left
pub without-last : (cursor : Cursor) (cursors : List Cursor) → AreBelow cursor.id cursors → without cursor.serial cursor.id (cursors ++ cursor ∷ []) ≡ cursors
without-last cursor [] below = rw (is-this cursor) refl
without-last cursor (first ∷ cursors) below =
    rw (is-other cursor.serial cursor.id first below.0) (ap (λ (rest : List Cursor). first ∷ rest) (without-last cursor cursors below.1))

-- ---- the book

-- no cursor waits
pub book-alone : (cursors : List Cursor) (next : ℕ) → AreBelow next cursors → IsBook None cursors next
book-alone cursors next below = record { earlier = below; last = sym (append-nil cursors) }

-- what is seen is of earlier events
pub below-seen : (opens : Option CursorPlace) (book : List Cursor) (next : ℕ) → AreBelow next book → AreBelow next (seen opens book)
below-seen None book next below = below
below-seen (Some place) book next below = below-filter next (λ cursor. not (is_cursor place.serial place.id cursor)) book below

-- where none waits all are seen
pub all-seen : (opens : Option CursorPlace) (book : List Cursor) (next : ℕ) → IsBook opens book next → waiting opens book ≡ None → seen opens book ≡ book
all-seen opens book next is none = sym (is.last ∙ (ap (λ (o : Option Cursor). seen opens book ++ option_to_list o) none ∙ append-nil (seen opens book)))

-- a cursor of this event waits
pub book-waits : (place : CursorPlace) (cursor : Cursor) (book : List Cursor) (next : ℕ) → place.serial ≡ cursor.serial → place.id ≡ cursor.id → cursor.id ≡ next → AreBelow next book
    → (seen (Some place) (book ++ cursor ∷ []) ≡ book) × (waiting (Some place) (book ++ cursor ∷ []) ≡ Some cursor) × IsBook (Some place) (book ++ cursor ∷ []) (next + 1)
book-waits place cursor book next serial id at below =
    let under : AreBelow cursor.id book = subst (λ n. AreBelow n book) (sym at) below in
    let left : seen (Some place) (book ++ cursor ∷ []) ≡ book =
    ap (λ n. without n place.id (book ++ cursor ∷ [])) serial ∙ (ap (λ n. without cursor.serial n (book ++ cursor ∷ [])) id ∙ without-last cursor book under) in
    let found : waiting (Some place) (book ++ cursor ∷ []) ≡ Some cursor =
    ap (λ n. cursor_of n place.id (book ++ cursor ∷ [])) serial ∙ (ap (λ n. cursor_of cursor.serial n (book ++ cursor ∷ [])) id ∙ found-last cursor book under) in (
      left,
      found,
      record {
        earlier = below-more (next + 1) cursor book (omega (arith, at)) (below-until next (next + 1) book (omega arith) below);
        last = sym (ap (λ (cursors : List Cursor). cursors ++ option_to_list (waiting (Some place) (book ++ cursor ∷ []))) left ∙ ap (λ (o : Option Cursor). book ++ option_to_list o) found);
      },
    )

-- the book of a later event
pub book-until : (opens : Option CursorPlace) (book : List Cursor) (n m : ℕ) → n ≤ m → IsBook opens book n → IsBook opens book m
book-until opens book n m more is = record { earlier = below-until n m book more is.earlier; last = is.last }

-- the cursors that are not idle, where none waits
pub book-begun : (opens : Option CursorPlace) (book : List Cursor) (n m now : ℕ) → n ≤ m → IsBook opens book n → IsBook None (live now (seen opens book)) m
book-begun opens book n m now more is =
    book-alone (live now (seen opens book)) m (below-until n m (live now (seen opens book)) more (below-filter n _ (seen opens book) (below-seen opens book n is.earlier)))
