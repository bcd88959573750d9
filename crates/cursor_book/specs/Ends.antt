-- A moment up to which no cursor is idle.
use Rattle.std.specs.Prelude.{ℕ, ◌≤◌, ◌+◌, List}
use Rattle.std.specs.List.{AllByRecursion}
use Rattle.cursor_book.specs.declared.cursor.Cursor.{Cursor}

-- a cursor may be left without a read up to the moment, or longer
abbrev pub EndsFrom : ℕ → Cursor → Type 0
EndsFrom moment cursor = moment ≤ cursor.last_use + cursor.max_idle

abbrev pub AllEndFrom : ℕ → List Cursor → Type 0
AllEndFrom moment cursors = AllByRecursion (EndsFrom moment) cursors
