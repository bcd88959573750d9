use Rattle.std.specs.Prelude.{◌≡◌, ◌++◌, Some, map, take, drop}
use Rattle.indexed_store.specs.Indexing.{killed}
use Rattle.indexed_store.proofs.indexes.kill_all.Given as goal

-- the document is out of the indexes so far, and the others are as they were
abbrev pub invariant-loop-index : goal.invariant-loop-index
invariant-loop-index l = l.indexes ≡ map (killed (Some l.id)) (take l.index-index l.fn.indexes) ++ drop l.index-index l.fn.indexes
