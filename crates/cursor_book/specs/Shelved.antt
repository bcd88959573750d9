-- The cursors as they are kept: those of an index together.
use Rattle.std.specs.Prelude.{◌≡◌, ℕ, Bool, true, false, not, nat_eq, nat_lt, List, [], ◌∷◌, ◌++◌, filter, map, Option, None, Some, if◌then◌else◌, ⊤}
use Rattle.std.specs.Coded.{Coded, coded×, coded_list, coded_ℕ}
use Rattle.std.specs.List.{AllByRecursion, find}
use Rattle.cursor_book.specs.contracts.cursor.Cursor.{the_row as cursor_row}
use Rattle.cursor_book.specs.declared.cursor.Cursor.{Cursor}
use Rattle.cursor_book.specs.Cursors.{IdsRise, cursor_read, has_id, is_of}
use Rattle.cursor_book.specs.declared.cursor.Taken.{Taken}
use Rattle.cursor_book.specs.Ends.{AllEndFrom}

-- the serial of an index, and its cursors
abbrev pub Shelved : Type 0
Shelved = ℕ × List Cursor

abbrev pub cursors_code : Coded (List Cursor)
cursors_code = coded_list cursor_row.coded

abbrev pub shelved_code : Coded Shelved
shelved_code = coded× coded_ℕ cursors_code

abbrev pub has_serial : ℕ → Shelved → Bool
has_serial serial shelf = nat_eq shelf.0 serial

-- a shelf with the cursors that pass
abbrev pub kept : (Cursor → Bool) → Shelved → Shelved
kept test shelf = (shelf.0, filter test shelf.1)

-- a shelf with cursors that were changed
abbrev pub changed : (Cursor → Cursor) → Shelved → Shelved
changed change shelf = (shelf.0, map change shelf.1)

-- all cursors, one index after another
abbrev pub all_of : List Shelved → List Cursor
all_of [] = []
all_of (shelf ∷ shelves) = shelf.1 ++ all_of shelves

-- a cursor goes before the first one whose id isn't less
abbrev pub placed : Cursor → List Cursor → List Cursor
placed cursor [] = cursor ∷ []
placed cursor (first ∷ cursors) = if nat_lt first.id cursor.id then first ∷ placed cursor cursors else cursor ∷ first ∷ cursors

-- cursors in order of ids
abbrev pub by_id : List Cursor → List Cursor
by_id [] = []
by_id (cursor ∷ cursors) = placed cursor (by_id cursors)

-- the cursors of a shelf, where there is one
abbrev pub cursors_in : Option Shelved → List Cursor
cursors_in None = []
cursors_in (Some shelf) = shelf.1

-- the shelf of an index, as the first that has its serial
abbrev pub shelf_of : ℕ → List Shelved → List Cursor
shelf_of serial shelves = cursors_in (find (has_serial serial) shelves)

-- Each shelf has all cursors of its index and no others.
abbrev pub AreShelved : List Shelved → Type 0
AreShelved [] = ⊤
AreShelved (shelf ∷ shelves) = AllByRecursion (λ cursor. is_of shelf.0 cursor ≡ true) shelf.1
    × AllByRecursion (λ cursor. is_of shelf.0 cursor ≡ false) (all_of shelves) × AreShelved shelves

-- ---- what becomes of a shelf

-- a cursor behind a read of the one with this id
abbrev pub read_if_id : ℕ → ℕ → Taken → Cursor → Cursor
read_if_id id now taken cursor = if has_id id cursor then cursor_read now taken cursor else cursor

-- a shelf behind that read, where it is that of the index
abbrev pub read_in : ℕ → ℕ → ℕ → Taken → Shelved → Shelved
read_in serial id now taken shelf = if has_serial serial shelf then changed (read_if_id id now taken) shelf else shelf

-- a shelf without the cursor with this id, where it is that of the index
abbrev pub delete_in : ℕ → ℕ → Shelved → Shelved
delete_in serial id shelf = if has_serial serial shelf then kept (λ cursor. not (has_id id cursor)) shelf else shelf

-- one more cursor, behind the others of its index
abbrev pub pushed : Cursor → List Shelved → List Shelved
pushed cursor [] = (cursor.serial, cursor ∷ []) ∷ []
pushed cursor (shelf ∷ shelves) =
    if has_serial cursor.serial shelf then (shelf.0, shelf.1 ++ cursor ∷ []) ∷ shelves else shelf ∷ pushed cursor shelves

-- what holds of a book
pub record IsBook (earliest : ℕ) (shelves : List Shelved) : Type 0 where
  pub ends : AllEndFrom earliest (all_of shelves)
  pub shelved : AreShelved shelves
  pub rises : IdsRise (by_id (all_of shelves))
