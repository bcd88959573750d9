use Rattle.std.specs.Prelude.{◌≡◌, ◌++◌, map, take, drop}
use Rattle.cursor_book.specs.Cursors.{is_live}
use Rattle.cursor_book.specs.Shelved.{kept}
use Rattle.cursor_book.proofs.shelves.drop_idle_each.Given as goal

-- the shelves so far have no idle cursor, and the others are as they were
abbrev pub invariant-loop-shelf : goal.invariant-loop-shelf
invariant-loop-shelf l = l.shelves ≡ map (kept (is_live l.now)) (take l.shelf-index l.fn.shelves) ++ drop l.shelf-index l.fn.shelves
