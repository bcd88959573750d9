-- A cursor that goes behind the others of its index, at the first place that has the serial.
use Rattle.std.proofs.Common.{◌≡◌, ℕ, suc, ◌+◌, ◌≤◌, ◌<◌, Bool, true, false, List, [], ◌∷◌, ◌++◌, length, get_or, Some, None, Result, Ok, Err, refl, sym, ap, ◌∙◌, inl, inr, arith}
use Rattle.std.specs.Prelude.{OnOk, cond, nat_lt, slice_set}
use Rattle.std.specs.List.{position, position_or_len}
use Rattle.std.proofs.lemmas.Bool.{cases_Bool, ltb-false, ltb-true}
use Rattle.cursor_book.specs.declared.cursor.Cursor.{Cursor}
use Rattle.cursor_book.specs.Shelved.{Shelved, has_serial, pushed}

-- a place that was found is the first one
place-is : {X : Type 0} (p : X → Bool) (xs : List X) (i : ℕ) → position p xs ≡ Some i → (i ≡ position_or_len p xs) × (i < length xs)
place-is p xs i found = by_test (nat_lt (position_or_len p xs) (length xs)) refl found
  where
    by_test : (less : Bool) → nat_lt (position_or_len p xs) (length xs) ≡ less → cond less (Some (position_or_len p xs)) None ≡ Some i → (i ≡ position_or_len p xs) × (i < length xs)
    by_test true is found = let same : position_or_len p xs ≡ i = cc (found) in (sym same, omega (arith, same, ltb-true (position_or_len p xs) (length xs) is))
    by_test false is found = cc (found)

-- no place is found where no item passes
no-place : {X : Type 0} (p : X → Bool) (xs : List X) → position p xs ≡ None → length xs ≤ position_or_len p xs
no-place p xs none = by_test (nat_lt (position_or_len p xs) (length xs)) refl none
  where
    by_test : (less : Bool) → nat_lt (position_or_len p xs) (length xs) ≡ less → cond less (Some (position_or_len p xs)) None ≡ None → length xs ≤ position_or_len p xs
    by_test true is none = cc (none)
    by_test false is none = ltb-false (position_or_len p xs) (length xs) is

first-here : {X : Type 0} (p : X → Bool) (x : X) (xs : List X) → p x ≡ true → position_or_len p (x ∷ xs) ≡ 0
first-here p x xs passes = rw passes refl

first-later : {X : Type 0} (p : X → Bool) (x : X) (xs : List X) → p x ≡ false → position_or_len p (x ∷ xs) ≡ suc (position_or_len p xs)
first-later p x xs fails = let next : 1 + position_or_len p xs ≡ suc (position_or_len p xs) = omega arith in rw fails next

behind : (cursor : Cursor) (shelves : List Shelved) (i : ℕ) (d : Shelved) → i ≡ position_or_len (has_serial cursor.serial) shelves → i < length shelves
    → slice_set shelves i ((get_or shelves i d).0, (get_or shelves i d).1 ++ cursor ∷ []) ≡ pushed cursor shelves
behind cursor [] i d is within = absurd (omega (arith, within))
behind cursor (shelf ∷ shelves) i d is within =
    let p : Shelved → Bool = has_serial cursor.serial in
    elim (cases_Bool (has_serial cursor.serial shelf)) [
      | inl here ↦ let first : i ≡ 0 = is ∙ first-here p shelf shelves here in rw (first, here) refl
      | inr there ↦
          let later : i ≡ suc (position_or_len p shelves) = is ∙ first-later p shelf shelves there in
          rw (later, there) (ap (λ (rest : List Shelved). shelf ∷ rest) (behind cursor shelves (position_or_len p shelves) d refl (omega (arith, within, later))))
    ]

pub pushed-behind : (cursor : Cursor) (shelves : List Shelved) (i : ℕ) (shelf new : Shelved) → position (has_serial cursor.serial) shelves ≡ Some i
    → shelf ≡ get_or shelves i shelf → new ≡ (shelf.0, shelf.1 ++ cursor ∷ []) → slice_set shelves i new ≡ pushed cursor shelves
pushed-behind cursor shelves i shelf new found is made =
    let place = place-is (has_serial cursor.serial) shelves i found in
    ap (λ (s : Shelved). slice_set shelves i s) (made ∙ ap (λ (s : Shelved). (s.0, s.1 ++ cursor ∷ [])) is)
    ∙ behind cursor shelves i shelf place.0 place.1

last : (cursor : Cursor) (shelves : List Shelved) → length shelves ≤ position_or_len (has_serial cursor.serial) shelves
    → shelves ++ (cursor.serial, cursor ∷ []) ∷ [] ≡ pushed cursor shelves
last cursor [] past = refl
last cursor (shelf ∷ shelves) past =
    let p : Shelved → Bool = has_serial cursor.serial in
    elim (cases_Bool (has_serial cursor.serial shelf)) [
      | inl here ↦ absurd (omega (arith, past, first-here p shelf shelves here))
      | inr there ↦ rw there (ap (λ (rest : List Shelved). shelf ∷ rest) (last cursor shelves (omega (arith, past, first-later p shelf shelves there))))
    ]

pub pushed-last : (cursor : Cursor) (shelves : List Shelved) → position (has_serial cursor.serial) shelves ≡ None
    → shelves ++ (cursor.serial, cursor ∷ []) ∷ [] ≡ pushed cursor shelves
pushed-last cursor shelves none = last cursor shelves (no-place (has_serial cursor.serial) shelves none)

pub OnOk-then : {T E : Type 0} (r : Result T E) (P Q : Type 0) → (P → Q) → OnOk r P → OnOk r Q
OnOk-then (Ok x) P Q f h = f h
OnOk-then (Err e) P Q f h = h
