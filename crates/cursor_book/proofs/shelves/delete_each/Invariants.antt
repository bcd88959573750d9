use Rattle.std.specs.Prelude.{◌≡◌, ◌++◌, map, take, drop}
use Rattle.cursor_book.specs.Shelved.{delete_in}
use Rattle.cursor_book.proofs.shelves.delete_each.Given as goal

-- the shelves so far are without the cursor, and the others are as they were
abbrev pub invariant-loop-shelf : goal.invariant-loop-shelf
invariant-loop-shelf l = l.shelves ≡ map (delete_in l.serial l.id) (take l.shelf-index l.fn.shelves) ++ drop l.shelf-index l.fn.shelves
