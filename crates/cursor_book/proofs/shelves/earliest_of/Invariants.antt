use Rattle.std.specs.Prelude.{take}
use Rattle.cursor_book.specs.Ends.{AllEndFrom}
use Rattle.cursor_book.specs.Shelved.{all_of}
use Rattle.cursor_book.proofs.shelves.earliest_of.Given as goal

-- no cursor of the shelves so far is idle up to the moment
abbrev pub invariant-loop-shelf : goal.invariant-loop-shelf
invariant-loop-shelf l = AllEndFrom l.earliest (all_of (take l.shelf-index l.shelves))
