use Rattle.std.specs.Prelude.{◌≡◌, ◌++◌, map, take, drop}
use Rattle.cursor_book.specs.Shelved.{read_in}
use Rattle.cursor_book.proofs.shelves.read_each.Given as goal

-- the shelves so far are read, and the others are as they were
abbrev pub invariant-loop-shelf : goal.invariant-loop-shelf
invariant-loop-shelf l = l.shelves ≡ map (read_in l.serial l.id l.now l.taken) (take l.shelf-index l.fn.shelves) ++ drop l.shelf-index l.fn.shelves
