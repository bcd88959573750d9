-- The cursors that are open, as a list in rising order of ids, and what each call makes of it (RediSearch, FT.CURSOR).
use Rattle.std.specs.Prelude.{ℕ, ◌-◌, ◌<◌, ◌&&◌, ⊤, Bool, not, nat_eq, nat_lt, List, [], ◌∷◌, drop, filter, map, Option, if◌then◌else◌}
use Rattle.std.specs.List.{AllByRecursion, find}
use Rattle.cursor_book.specs.declared.cursor.Cursor.{Cursor}
use Rattle.cursor_book.specs.declared.cursor.Body.{Body}
use Rattle.cursor_book.specs.declared.cursor.Body.TheVariants.{Rows, Stream}
use Rattle.cursor_book.specs.declared.cursor.Taken.{Taken}
use Rattle.cursor_book.specs.declared.cursor.Taken.TheVariants as taken

-- ---- which cursors

-- whether a cursor's last use is longer ago than it may be left
abbrev pub is_idle : ℕ → Cursor → Bool
is_idle now cursor = nat_lt cursor.max_idle (now - cursor.last_use)

abbrev pub is_live : ℕ → Cursor → Bool
is_live now cursor = not (is_idle now cursor)

-- whether a cursor is one of the index
abbrev pub is_of : ℕ → Cursor → Bool
is_of serial cursor = nat_eq cursor.serial serial

abbrev pub has_id : ℕ → Cursor → Bool
has_id id cursor = nat_eq cursor.id id

-- whether it is the one of this index with this id
abbrev pub is_cursor : ℕ → ℕ → Cursor → Bool
is_cursor serial id cursor = is_of serial cursor && has_id id cursor

-- ---- what is asked

-- the cursors that are not idle at a moment
abbrev pub live : ℕ → List Cursor → List Cursor
live now cursors = filter (is_live now) cursors

-- the cursor of an index with an id
abbrev pub cursor_of : ℕ → ℕ → List Cursor → Option Cursor
cursor_of serial id cursors = find (is_cursor serial id) cursors

-- the cursors of an index
abbrev pub cursors_of : ℕ → List Cursor → List Cursor
cursors_of serial cursors = filter (is_of serial) cursors

-- ---- what becomes of them

-- without the one of this index with this id
abbrev pub without : ℕ → ℕ → List Cursor → List Cursor
without serial id cursors = filter (λ cursor. not (is_cursor serial id cursor)) cursors

-- without those of an index
abbrev pub without_index : ℕ → List Cursor → List Cursor
without_index serial cursors = filter (λ cursor. not (is_of serial cursor)) cursors

-- what a read leaves: the rows behind those that it took, or a stream that goes on behind an id
abbrev pub body_left : Taken → Body → Body
body_left (taken.Rows count) (Rows rows) = Rows (drop count rows)
body_left (taken.UpTo id) (Stream query steps after) = Stream query steps id
body_left _ body = body

-- a cursor behind a read at a moment
abbrev pub cursor_read : ℕ → Taken → Cursor → Cursor
cursor_read now taken cursor = record {
  id = cursor.id;
  serial = cursor.serial;
  last_use = now;
  max_idle = cursor.max_idle;
  count = cursor.count;
  body = body_left taken cursor.body;
}

-- a cursor behind a read of the one of this index with this id
abbrev pub read_one : ℕ → ℕ → ℕ → Taken → Cursor → Cursor
read_one serial id now taken cursor = if is_cursor serial id cursor then cursor_read now taken cursor else cursor

-- the cursors behind that read
abbrev pub read : ℕ → ℕ → ℕ → Taken → List Cursor → List Cursor
read serial id now taken cursors = map (read_one serial id now taken) cursors

-- ---- the order

-- ids rise, so that each is that of one cursor
abbrev pub IdsRise : List Cursor → Type 0
IdsRise [] = ⊤
IdsRise (cursor ∷ cursors) = AllByRecursion (λ other. cursor.id < other.id) cursors × IdsRise cursors
