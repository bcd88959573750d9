use Rattle.std.specs.Prelude.{◌≡◌, ◌++◌, map, take, drop}
use Rattle.cursor_book.specs.Shelved.{read_if_id}
use Rattle.cursor_book.proofs.shelf.read_cursors.Given as goal

-- the cursors so far are read, and the others are as they were
abbrev pub invariant-loop-cursor : goal.invariant-loop-cursor
invariant-loop-cursor l = l.cursors ≡ map (read_if_id l.id l.now l.taken) (take l.cursor-index l.fn.cursors) ++ drop l.cursor-index l.fn.cursors
