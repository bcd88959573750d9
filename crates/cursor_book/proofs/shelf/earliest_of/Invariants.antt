use Rattle.std.specs.Prelude.{take}
use Rattle.cursor_book.specs.Ends.{AllEndFrom}
use Rattle.cursor_book.proofs.shelf.earliest_of.Given as goal

-- none of the cursors so far is idle up to the moment
abbrev pub invariant-loop-cursor : goal.invariant-loop-cursor
invariant-loop-cursor l = AllEndFrom l.earliest (take l.cursor-index l.cursors)
