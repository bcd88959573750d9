-- One cursor among those that are open, and what each change of them leaves of it.
use Rattle.std.proofs.Common.{◌≡◌, ◌⊎◌, inl, inr, ℕ, ◌<◌, Bool, true, false, cond, ◌&&◌, nat_eq, List, [], ◌∷◌, ◌++◌, filter, map, Option, Some, None, refl, sym, ap, subst, ◌∙◌, arith, append-nil}
use Rattle.std.proofs.lemmas.Bool.{eqb-true, ne_eqb, and_parts, and_from, and_right}
use Rattle.cursor_book.specs.Cursors.{cursor_read, is_cursor, read_one}
use Rattle.cursor_book.specs.declared.cursor.Body.TheVariants as body
use Rattle.cursor_book.specs.declared.cursor.Cursor.{Cursor}
use Rattle.cursor_book.specs.declared.cursor.Taken.{Taken}
use Rattle.ft_machine.specs.Machine.{State}
use Rattle.cursor_law.specs.StreamCursor.{StreamCursor, after_in, after_of}
use Rattle.cursor_law.proofs.ListLaws.{filter-append, filter-map, filter-passes, filter-swap, find-none, find-some}

-- a cursor is kept as this one, read up to an id
pub record Stands (cursor : StreamCursor) (after : ℕ) (kept : Cursor) : Type 0 where
  pub body : kept.body ≡ body.Stream cursor.query cursor.stream after
  pub count : kept.count ≡ cursor.count

abbrev pub mine : StreamCursor → List Cursor → List Cursor
mine cursor cursors = filter (is_cursor cursor.serial cursor.id) cursors

-- it is there once, read up to an id, or not there
abbrev pub IsAt : StreamCursor → List Cursor → Option ℕ → Type 0
IsAt cursor cursors None = mine cursor cursors ≡ []
IsAt cursor cursors (Some after) = (kept : Cursor) × (mine cursor cursors ≡ kept ∷ []) × Stands cursor after kept

-- it is as it was, or gone
abbrev pub Left : StreamCursor → List Cursor → Option ℕ → Type 0
Left cursor cursors at = IsAt cursor cursors at ⊎ IsAt cursor cursors None

module _ (cursor : StreamCursor) where
  -- what contracts see of it
  pub after-is : (state : State) (at : Option ℕ) → IsAt cursor state.cursors at → after_in cursor state ≡ at
  after-is state None is = ap after_of (find-none (is_cursor cursor.serial cursor.id) state.cursors is)
  after-is state (Some after) is =
      ap after_of (find-some (is_cursor cursor.serial cursor.id) state.cursors is.0 is.1) ∙ ap (λ b. after_of (Some (record is.0 { body = b }))) is.2.body

  -- a filter
  pub filter-leaves : (test : Cursor → Bool) (cursors : List Cursor) (at : Option ℕ) → IsAt cursor cursors at → Left cursor (filter test cursors) at
  filter-leaves test cursors None is = inl (filter-swap _ test cursors ∙ ap (filter test) is)
  filter-leaves test cursors (Some after) is = pick (test is.0) (filter-swap _ test cursors ∙ ap (filter test) is.1)
    where
      pick : (b : Bool) → mine cursor (filter test cursors) ≡ cond b (is.0 ∷ []) [] → Left cursor (filter test cursors) (Some after)
      pick true e = inl (is.0, e, is.2)
      pick false e = inr e

  -- a read does not change whose a cursor is
  read-same : (serial id now : ℕ) (taken : Taken) (c : Cursor) → is_cursor cursor.serial cursor.id (read_one serial id now taken c) ≡ is_cursor cursor.serial cursor.id c
  read-same serial id now taken c = pick (is_cursor serial id c)
    where
      pick : (b : Bool) → is_cursor cursor.serial cursor.id (cond b (cursor_read now taken c) c) ≡ is_cursor cursor.serial cursor.id c
      pick true = refl
      pick false = refl

  pub read-mine : (serial id now : ℕ) (taken : Taken) (cursors : List Cursor) → mine cursor (map (read_one serial id now taken) cursors) ≡ map (read_one serial id now taken) (mine cursor cursors)
  read-mine serial id now taken cursors = filter-map _ (read_one serial id now taken) (read-same serial id now taken) cursors

  -- another one's words
  other : (serial id : ℕ) (c : Cursor) → (nat_eq serial cursor.serial && nat_eq id cursor.id) ≡ false → is_cursor cursor.serial cursor.id c ≡ true → is_cursor serial id c ≡ false
  other serial id c apart is = pick (is_cursor serial id c) refl
    where
      mine-is : (nat_eq c.serial cursor.serial ≡ true) × (nat_eq c.id cursor.id ≡ true)
      mine-is = and_parts (nat_eq c.serial cursor.serial) (nat_eq c.id cursor.id) is

      same : (n m k : ℕ) → nat_eq n m ≡ true → nat_eq n k ≡ true → nat_eq m k ≡ true
      same n m k e f = subst (λ (l : ℕ). nat_eq l k ≡ true) (eqb-true n m e) f

      pick : (b : Bool) → is_cursor serial id c ≡ b → b ≡ false
      pick false e = refl
      pick true e =
          let its = and_parts (nat_eq c.serial serial) (nat_eq c.id id) e in
          sym (and_from (nat_eq serial cursor.serial) (nat_eq id cursor.id) (same c.serial serial cursor.serial its.0 mine-is.0) (same c.id id cursor.id its.1 mine-is.1)) ∙ apart

  -- a read of another one
  pub read-leaves : (serial id now : ℕ) (taken : Taken) (cursors : List Cursor) (at : Option ℕ) → (nat_eq serial cursor.serial && nat_eq id cursor.id) ≡ false
      → IsAt cursor cursors at → IsAt cursor (map (read_one serial id now taken) cursors) at
  read-leaves serial id now taken cursors None apart is = read-mine serial id now taken cursors ∙ ap (map (read_one serial id now taken)) is
  read-leaves serial id now taken cursors (Some after) apart is =
      let away : is_cursor serial id is.0 ≡ false = other serial id is.0 apart (filter-passes _ cursors is.0 is.1) in
      (is.0, read-mine serial id now taken cursors ∙ (ap (map (read_one serial id now taken)) is.1 ∙ ap (λ b. cond b (cursor_read now taken is.0) is.0 ∷ []) away), is.2)

  -- one more cursor, of a later event
  pub push-leaves : (new : Cursor) (cursors : List Cursor) (at : Option ℕ) → cursor.id < new.id → IsAt cursor cursors at → IsAt cursor (cursors ++ new ∷ []) at
  push-leaves new cursors at later is = by at is
    where
      away : is_cursor cursor.serial cursor.id new ≡ false
      away = and_right (nat_eq new.serial cursor.serial) (nat_eq new.id cursor.id) (ne_eqb new.id cursor.id (λ e. absurd (omega (arith, later, e))))

      same : mine cursor (cursors ++ new ∷ []) ≡ mine cursor cursors
      same = filter-append _ cursors (new ∷ []) ∙ (ap (λ b. mine cursor cursors ++ cond b (new ∷ []) []) away ∙ append-nil (mine cursor cursors))

      by : (at : Option ℕ) → IsAt cursor cursors at → IsAt cursor (cursors ++ new ∷ []) at
      by None is = same ∙ is
      by (Some after) is = (is.0, same ∙ is.1, is.2)
