use Rattle.std.specs.Prelude.{◌≡◌, ◌++◌, map, take, drop}
use Rattle.indexed_store.specs.Indexing.{settled}
use Rattle.indexed_store.proofs.indexes.commit_all.Given as goal

-- the indexes so far are settled, and the others are as they were
abbrev pub invariant-loop-index : goal.invariant-loop-index
invariant-loop-index l = l.indexes ≡ map (settled l.replaced) (take l.index-index l.fn.indexes) ++ drop l.index-index l.fn.indexes
