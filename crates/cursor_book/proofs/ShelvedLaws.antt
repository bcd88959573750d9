-- The cursors of each index together: what is done to the shelf of an index is done to all cursors.
use Rattle.std.proofs.Common.{◌≡◌, ℕ, ◌+◌, ◌≤◌, ◌<◌, Bool, true, false, not, ◌&&◌, List, [], ◌∷◌, ◌++◌, map, length, refl, sym, ap, subst, ◌∙◌, inl, inr}
use Rattle.std.specs.Prelude.{filter, nat_eq}
use Rattle.std.specs.List.{AllByRecursion, find}
use Rattle.std.proofs.lemmas.Bool.{cases_Bool, eq-eqb, eqb-false, eqb-true, ne_eqb}
use Rattle.std.proofs.lemmas.List.{append_assoc, append-nil, map-append}
use Rattle.std.proofs.lemmas.List.Elements.{filter-append}
use Rattle.cursor_book.specs.declared.cursor.Cursor.{Cursor}
use Rattle.cursor_book.specs.declared.cursor.Taken.{Taken}
use Rattle.cursor_book.specs.Cursors.{IdsRise, cursor_of, cursors_of, has_id, is_cursor, is_live, is_of, live, read, read_one, without, without_index}
use Rattle.cursor_book.specs.Ends.{AllEndFrom}
use Rattle.cursor_book.specs.Shelved.{AreShelved, Shelved, all_of, by_id, changed, delete_in, has_serial, kept, pushed, read_if_id, read_in, shelf_of}
use Rattle.cursor_book.proofs.EndsLaws.{none-idle}
use Rattle.cursor_book.proofs.EachLaws.{each-append, each-filter, each-left, each-map, each-right, each-weaker, filter-all, filter-none, filter-same, find-filter, map-none, map-same}
use Rattle.cursor_book.proofs.RisingLaws.{rise-append, rise-filter, rise-map}
use Rattle.cursor_book.proofs.OrderLaws.{each-from-order, each-in-order, filter-by-id, find-by-id, last-behind, length-by-id, map-by-id, placed-last}

abbrev IsOf : ℕ → Cursor → Type 0
IsOf serial cursor = is_of serial cursor ≡ true

abbrev IsNotOf : ℕ → Cursor → Type 0
IsNotOf serial cursor = is_of serial cursor ≡ false

-- a cursor of one index is not one of another
other-index : (here there : ℕ) (cursor : Cursor) → nat_eq here there ≡ false → IsOf here cursor → IsNotOf there cursor
other-index here there cursor differ is = ap (λ serial. nat_eq serial there) (eqb-true cursor.serial here is) ∙ differ

same-index : (here there : ℕ) (cursor : Cursor) → nat_eq here there ≡ true → IsOf here cursor → IsOf there cursor
same-index here there cursor same is = ap (λ serial. nat_eq serial there) (eqb-true cursor.serial here is) ∙ same

-- ---- filters and changes of each shelf

pub all-kept : (p : Cursor → Bool) (shelves : List Shelved) → all_of (map (kept p) shelves) ≡ filter p (all_of shelves)
all-kept p [] = refl
all-kept p (shelf ∷ shelves) = ap (λ (rest : List Cursor). filter p shelf.1 ++ rest) (all-kept p shelves) ∙ sym (filter-append p shelf.1 (all_of shelves))

pub all-changed : (f : Cursor → Cursor) (shelves : List Shelved) → all_of (map (changed f) shelves) ≡ map f (all_of shelves)
all-changed f [] = refl
all-changed f (shelf ∷ shelves) = ap (λ (rest : List Cursor). map f shelf.1 ++ rest) (all-changed f shelves) ∙ sym (map-append f shelf.1 (all_of shelves))

pub shelved-kept : (p : Cursor → Bool) (shelves : List Shelved) → AreShelved shelves → AreShelved (map (kept p) shelves)
shelved-kept p [] are = tt
shelved-kept p (shelf ∷ shelves) are = (
  each-filter (IsOf shelf.0) p shelf.1 are.0,
  subst (AllByRecursion (IsNotOf shelf.0)) (sym (all-kept p shelves)) (each-filter (IsNotOf shelf.0) p (all_of shelves) are.1),
  shelved-kept p shelves are.2,
)

pub shelved-changed : (f : Cursor → Cursor) → ((cursor : Cursor) → (f cursor).serial ≡ cursor.serial) → (shelves : List Shelved) → AreShelved shelves → AreShelved (map (changed f) shelves)
shelved-changed f keeps [] are = tt
shelved-changed f keeps (shelf ∷ shelves) are = (
  each-map (IsOf shelf.0) f (λ cursor is. ap (λ serial. nat_eq serial shelf.0) (keeps cursor) ∙ is) shelf.1 are.0,
  subst (AllByRecursion (IsNotOf shelf.0)) (sym (all-changed f shelves)) (each-map (IsNotOf shelf.0) f (λ cursor is. ap (λ serial. nat_eq serial shelf.0) (keeps cursor) ∙ is) (all_of shelves) are.1),
  shelved-changed f keeps shelves are.2,
)

-- ---- the shelf of an index

-- it has all cursors of the index
pub of-shelf : (serial : ℕ) (shelves : List Shelved) → AreShelved shelves → filter (is_of serial) (all_of shelves) ≡ shelf_of serial shelves
of-shelf serial [] are = refl
of-shelf serial (shelf ∷ shelves) are =
    filter-append (is_of serial) shelf.1 (all_of shelves)
    ∙ elim (cases_Bool (has_serial serial shelf)) [
      | inl here ↦
          let is : shelf.0 ≡ serial = eqb-true shelf.0 serial here in
          rw here
          (ap (λ (first : List Cursor). first ++ filter (is_of serial) (all_of shelves)) (filter-all (is_of serial) shelf.1 (subst (λ n. AllByRecursion (IsOf n) shelf.1) is are.0))
          ∙ ap (λ (rest : List Cursor). shelf.1 ++ rest) (filter-none (is_of serial) (all_of shelves) (subst (λ n. AllByRecursion (IsNotOf n) (all_of shelves)) is are.1))
          ∙ append-nil shelf.1)
      | inr behind ↦
          rw behind
          (ap (λ (first : List Cursor). first ++ filter (is_of serial) (all_of shelves)) (filter-none (is_of serial) shelf.1 (each-weaker (IsOf shelf.0) (IsNotOf serial) (λ cursor is. other-index shelf.0 serial cursor behind is) shelf.1 are.0))
          ∙ of-shelf serial shelves are.2)
    ]

pub found : (serial id : ℕ) (shelves : List Shelved) → AreShelved shelves → find (has_id id) (shelf_of serial shelves) ≡ cursor_of serial id (by_id (all_of shelves))
found serial id shelves are =
    ap (find (has_id id)) (sym (of-shelf serial shelves are))
    ∙ sym (find-filter (is_of serial) (has_id id) (all_of shelves))
    ∙ sym (find-by-id serial id (all_of shelves))

pub counted : (serial : ℕ) (shelves : List Shelved) → AreShelved shelves → length (shelf_of serial shelves) ≡ length (cursors_of serial (by_id (all_of shelves)))
counted serial shelves are =
    sym (ap length (filter-by-id (is_of serial) (all_of shelves)) ∙ length-by-id (filter (is_of serial) (all_of shelves)) ∙ ap length (of-shelf serial shelves are))

-- ---- a change of the shelf of an index

pub deleted : (serial id : ℕ) (shelves : List Shelved) → AreShelved shelves → map (delete_in serial id) shelves ≡ map (kept (λ cursor. not (is_cursor serial id cursor))) shelves
deleted serial id [] are = refl
deleted serial id (shelf ∷ shelves) are =
    let p : Cursor → Bool = λ cursor. not (has_id id cursor) in
    let q : Cursor → Bool = λ cursor. not (is_cursor serial id cursor) in
    let this : delete_in serial id shelf ≡ kept q shelf =
    elim (cases_Bool (has_serial serial shelf)) [
      | inl here ↦ rw here (ap (λ (cursors : List Cursor). (shelf.0, cursors)) (filter-same p q shelf.1
          (each-weaker (IsOf shelf.0) (λ cursor. p cursor ≡ q cursor) (λ cursor is. sym (ap (λ (of : Bool). not (of && has_id id cursor)) (same-index shelf.0 serial cursor here is))) shelf.1 are.0)))
      | inr there ↦ rw there (ap (λ (cursors : List Cursor). (shelf.0, cursors)) (sym (filter-all q shelf.1
          (each-weaker (IsOf shelf.0) (λ cursor. q cursor ≡ true) (λ cursor is. ap (λ (of : Bool). not (of && has_id id cursor)) (other-index shelf.0 serial cursor there is)) shelf.1 are.0))))
    ] in
    ap (λ (first : Shelved). first ∷ map (delete_in serial id) shelves) this
    ∙ ap (λ (rest : List Shelved). kept q shelf ∷ rest) (deleted serial id shelves are.2)

pub was-read : (serial id now : ℕ) (taken : Taken) (shelves : List Shelved) → AreShelved shelves → map (read_in serial id now taken) shelves ≡ map (changed (read_one serial id now taken)) shelves
was-read serial id now taken [] are = refl
was-read serial id now taken (shelf ∷ shelves) are =
    let f : Cursor → Cursor = read_if_id id now taken in
    let g : Cursor → Cursor = read_one serial id now taken in
    let this : read_in serial id now taken shelf ≡ changed g shelf =
    elim (cases_Bool (has_serial serial shelf)) [
      | inl here ↦ rw here (ap (λ (cursors : List Cursor). (shelf.0, cursors)) (map-same f g shelf.1
          (each-weaker (IsOf shelf.0) (λ cursor. f cursor ≡ g cursor) (λ cursor is. rw (same-index shelf.0 serial cursor here is) refl) shelf.1 are.0)))
      | inr there ↦ rw there (ap (λ (cursors : List Cursor). (shelf.0, cursors)) (sym (map-none g shelf.1
          (each-weaker (IsOf shelf.0) (λ cursor. g cursor ≡ cursor) (λ cursor is. rw (other-index shelf.0 serial cursor there is) refl) shelf.1 are.0))))
    ] in
    ap (λ (first : Shelved). first ∷ map (read_in serial id now taken) shelves) this
    ∙ ap (λ (rest : List Shelved). changed g shelf ∷ rest) (was-read serial id now taken shelves are.2)

read-one-id : (serial id now : ℕ) (taken : Taken) (cursor : Cursor) → (read_one serial id now taken cursor).id ≡ cursor.id
read-one-id serial id now taken cursor =
    elim (cases_Bool (is_cursor serial id cursor)) [
      | inl this ↦ rw this refl
      | inr other ↦ rw other refl
    ]

read-one-serial : (serial id now : ℕ) (taken : Taken) (cursor : Cursor) → (read_one serial id now taken cursor).serial ≡ cursor.serial
read-one-serial serial id now taken cursor =
    elim (cases_Bool (is_cursor serial id cursor)) [
      | inl this ↦ rw this refl
      | inr other ↦ rw other refl
    ]

-- ---- shelves that go

abbrev is_other : ℕ → Shelved → Bool
is_other serial shelf = not (has_serial serial shelf)

all-others : (serial : ℕ) (shelves : List Shelved) → AreShelved shelves → all_of (filter (is_other serial) shelves) ≡ without_index serial (all_of shelves)
all-others serial [] are = refl
all-others serial (shelf ∷ shelves) are =
    let q : Cursor → Bool = λ cursor. not (is_of serial cursor) in
    elim (cases_Bool (has_serial serial shelf)) [
      | inl here ↦
          rw here
          (all-others serial shelves are.2
          ∙ ap (λ (first : List Cursor). first ++ filter q (all_of shelves)) (sym (filter-none q shelf.1
          (each-weaker (IsOf shelf.0) (λ cursor. q cursor ≡ false) (λ cursor is. ap not (same-index shelf.0 serial cursor here is)) shelf.1 are.0)))
          ∙ sym (filter-append q shelf.1 (all_of shelves)))
      | inr there ↦
          rw there
          (ap (λ (rest : List Cursor). shelf.1 ++ rest) (all-others serial shelves are.2)
          ∙ ap (λ (first : List Cursor). first ++ filter q (all_of shelves)) (sym (filter-all q shelf.1
          (each-weaker (IsOf shelf.0) (λ cursor. q cursor ≡ true) (λ cursor is. ap not (other-index shelf.0 serial cursor there is)) shelf.1 are.0)))
          ∙ sym (filter-append q shelf.1 (all_of shelves)))
    ]

pub shelved-others : (serial : ℕ) (shelves : List Shelved) → AreShelved shelves → AreShelved (filter (is_other serial) shelves)
shelved-others serial [] are = tt
shelved-others serial (shelf ∷ shelves) are =
    elim (cases_Bool (has_serial serial shelf)) [
      | inl here ↦ rw here (shelved-others serial shelves are.2)
      | inr there ↦
          rw there (
            are.0,
            subst (AllByRecursion (IsNotOf shelf.0)) (sym (all-others serial shelves are.2))
                (each-filter (IsNotOf shelf.0) (λ cursor. not (is_of serial cursor)) (all_of shelves) are.1),
            shelved-others serial shelves are.2,
          )
    ]

-- ---- one more cursor

eq-itself : (n : ℕ) → nat_eq n n ≡ true
eq-itself n = eq-eqb n n refl

other : (m n : ℕ) → nat_eq n m ≡ false → nat_eq m n ≡ false
other m n differ = ne_eqb m n (λ is. eqb-false n m differ (sym is))

each-pushed : (P : Cursor → Type 0) (cursor : Cursor) (shelves : List Shelved) → P cursor → AllByRecursion P (all_of shelves) → AllByRecursion P (all_of (pushed cursor shelves))
each-pushed P cursor [] this all = (this, tt)
each-pushed P cursor (shelf ∷ shelves) this all =
    let first : AllByRecursion P shelf.1 = each-left P shelf.1 (all_of shelves) all in
    let rest : AllByRecursion P (all_of shelves) = each-right P shelf.1 (all_of shelves) all in
    elim (cases_Bool (has_serial cursor.serial shelf)) [
      | inl here ↦ rw here (each-append P (shelf.1 ++ cursor ∷ []) (all_of shelves) (each-append P shelf.1 (cursor ∷ []) first (this, tt)) rest)
      | inr there ↦ rw there (each-append P shelf.1 (all_of (pushed cursor shelves)) first (each-pushed P cursor shelves this rest))
    ]

pub shelved-pushed : (cursor : Cursor) (shelves : List Shelved) → AreShelved shelves → AreShelved (pushed cursor shelves)
shelved-pushed cursor [] are = ((eq-itself cursor.serial, tt), tt, tt)
shelved-pushed cursor (shelf ∷ shelves) are =
    elim (cases_Bool (has_serial cursor.serial shelf)) [
      | inl here ↦
          let is : shelf.0 ≡ cursor.serial = eqb-true shelf.0 cursor.serial here in
          rw here (each-append (IsOf shelf.0) shelf.1 (cursor ∷ []) are.0 (subst (λ n. is_of n cursor ≡ true) (sym is) (eq-itself cursor.serial), tt), are.1, are.2)
      | inr there ↦
          rw there (are.0, each-pushed (IsNotOf shelf.0) cursor shelves (other cursor.serial shelf.0 there) are.1, shelved-pushed cursor shelves are.2)
    ]

pub all-pushed : (cursor : Cursor) (shelves : List Shelved) → AllByRecursion (λ (other : Cursor). other.id < cursor.id) (all_of shelves)
    → by_id (all_of (pushed cursor shelves)) ≡ by_id (all_of shelves) ++ cursor ∷ []
all-pushed cursor [] below = refl
all-pushed cursor (shelf ∷ shelves) below =
    let P : Cursor → Type 0 = λ other. other.id < cursor.id in
    let first : AllByRecursion P shelf.1 = each-left P shelf.1 (all_of shelves) below in
    let rest : AllByRecursion P (all_of shelves) = each-right P shelf.1 (all_of shelves) below in
    elim (cases_Bool (has_serial cursor.serial shelf)) [
      | inl here ↦
          rw here
          (ap by_id (append_assoc shelf.1 (cursor ∷ []) (all_of shelves))
          ∙ last-behind cursor shelf.1 (all_of shelves) (cursor ∷ all_of shelves) first (placed-last cursor (by_id (all_of shelves)) (each-in-order P (all_of shelves) rest)))
      | inr there ↦ rw there (last-behind cursor shelf.1 (all_of shelves) (all_of (pushed cursor shelves)) first (all-pushed cursor shelves rest))
    ]

-- ---- in order of ids

pub kept-in-order : (p : Cursor → Bool) (shelves : List Shelved) → by_id (all_of (map (kept p) shelves)) ≡ filter p (by_id (all_of shelves))
kept-in-order p shelves = ap by_id (all-kept p shelves) ∙ sym (filter-by-id p (all_of shelves))

pub read-in-order : (serial id now : ℕ) (taken : Taken) (shelves : List Shelved) → AreShelved shelves
    → by_id (all_of (map (read_in serial id now taken) shelves)) ≡ read serial id now taken (by_id (all_of shelves))
read-in-order serial id now taken shelves are =
    let f : Cursor → Cursor = read_one serial id now taken in
    ap (λ (of : List Shelved). by_id (all_of of)) (was-read serial id now taken shelves are)
    ∙ ap by_id (all-changed f shelves)
    ∙ sym (map-by-id f (read-one-id serial id now taken) (all_of shelves))

pub shelved-read : (serial id now : ℕ) (taken : Taken) (shelves : List Shelved) → AreShelved shelves → AreShelved (map (read_in serial id now taken) shelves)
shelved-read serial id now taken shelves are =
    subst AreShelved (sym (was-read serial id now taken shelves are)) (shelved-changed (read_one serial id now taken) (read-one-serial serial id now taken) shelves are)

pub deleted-in-order : (serial id : ℕ) (shelves : List Shelved) → AreShelved shelves
    → by_id (all_of (map (delete_in serial id) shelves)) ≡ without serial id (by_id (all_of shelves))
deleted-in-order serial id shelves are =
    ap (λ (of : List Shelved). by_id (all_of of)) (deleted serial id shelves are)
    ∙ kept-in-order (λ cursor. not (is_cursor serial id cursor)) shelves

pub shelved-deleted : (serial id : ℕ) (shelves : List Shelved) → AreShelved shelves → AreShelved (map (delete_in serial id) shelves)
shelved-deleted serial id shelves are =
    subst AreShelved (sym (deleted serial id shelves are)) (shelved-kept (λ cursor. not (is_cursor serial id cursor)) shelves are)

pub others-in-order : (serial : ℕ) (shelves : List Shelved) → AreShelved shelves
    → by_id (all_of (filter (is_other serial) shelves)) ≡ without_index serial (by_id (all_of shelves))
others-in-order serial shelves are =
    ap by_id (all-others serial shelves are) ∙ sym (filter-by-id (λ cursor. not (is_of serial cursor)) (all_of shelves))

pub pushed-in-order : (cursor : Cursor) (shelves : List Shelved) → AllByRecursion (λ (other : Cursor). other.id < cursor.id) (by_id (all_of shelves))
    → by_id (all_of (pushed cursor shelves)) ≡ by_id (all_of shelves) ++ cursor ∷ []
pushed-in-order cursor shelves below = all-pushed cursor shelves (each-from-order (λ (other : Cursor). other.id < cursor.id) (all_of shelves) below)

pub live-in-order : (now moment : ℕ) (cursors : List Cursor) → now ≤ moment → AllEndFrom moment cursors → live now (by_id cursors) ≡ by_id cursors
live-in-order now moment cursors before ends = filter-by-id (is_live now) cursors ∙ ap by_id (none-idle now moment cursors before ends)

-- ---- ids rise

pub kept-rises : (p : Cursor → Bool) (shelves : List Shelved) → IdsRise (by_id (all_of shelves)) → IdsRise (by_id (all_of (map (kept p) shelves)))
kept-rises p shelves rise = subst IdsRise (sym (kept-in-order p shelves)) (rise-filter p (by_id (all_of shelves)) rise)

pub read-rises : (serial id now : ℕ) (taken : Taken) (shelves : List Shelved) → AreShelved shelves → IdsRise (by_id (all_of shelves))
    → IdsRise (by_id (all_of (map (read_in serial id now taken) shelves)))
read-rises serial id now taken shelves are rise =
    subst IdsRise (sym (read-in-order serial id now taken shelves are)) (rise-map (read_one serial id now taken) (read-one-id serial id now taken) (by_id (all_of shelves)) rise)

pub deleted-rises : (serial id : ℕ) (shelves : List Shelved) → AreShelved shelves → IdsRise (by_id (all_of shelves)) → IdsRise (by_id (all_of (map (delete_in serial id) shelves)))
deleted-rises serial id shelves are rise =
    subst IdsRise (sym (deleted-in-order serial id shelves are)) (rise-filter (λ cursor. not (is_cursor serial id cursor)) (by_id (all_of shelves)) rise)

pub others-rise : (serial : ℕ) (shelves : List Shelved) → AreShelved shelves → IdsRise (by_id (all_of shelves)) → IdsRise (by_id (all_of (filter (is_other serial) shelves)))
others-rise serial shelves are rise =
    subst IdsRise (sym (others-in-order serial shelves are)) (rise-filter (λ cursor. not (is_of serial cursor)) (by_id (all_of shelves)) rise)

pub pushed-rises : (cursor : Cursor) (shelves : List Shelved) → AllByRecursion (λ (other : Cursor). other.id < cursor.id) (by_id (all_of shelves)) → IdsRise (by_id (all_of shelves))
    → IdsRise (by_id (all_of (pushed cursor shelves)))
pushed-rises cursor shelves below rise = subst IdsRise (sym (pushed-in-order cursor shelves below)) (rise-append cursor (by_id (all_of shelves)) below rise)
