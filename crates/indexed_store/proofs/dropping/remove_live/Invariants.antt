use Rattle.std.specs.Prelude.{◌≡◌, ℕ, fold, map, length}
use Rattle.indexed_store.specs.DefinitionsOf.{definitions_of}
use Rattle.hash_store.specs.Erasing.{erase_id}
use Rattle.indexed_store.specs.Listed.{KeepLists}
use Rattle.indexed_store.specs.Moving.{IndexesMove}
use Rattle.indexed_store.specs.Standing.{InStep}
use Rattle.indexed_store.proofs.dropping.remove_live.Given as goal

-- what is left to remove are the rows that are still live
abbrev pub invariant-removing : goal.invariant-removing
invariant-removing l = record {
  left : fold erase_id l.store.space (map (λ row. row.0) l.dropped.table.live) ≡ fold erase_id l.fn.store.space (map (λ row. row.0) l.fn.dropped.table.live);
  rest : l.store ≡ record l.fn.store { space = l.store.space };
  kept : (next : ℕ) → InStep l.fn.store l.fn.indexes next → InStep l.store l.indexes next;
  definitions : definitions_of l.indexes ≡ definitions_of l.fn.indexes;
  lists : KeepLists l.fn.indexes l.indexes;
  moves : (event : ℕ) → IndexesMove event l.fn.indexes l.indexes;
}

abbrev pub decreases-removing : goal.decreases-removing
decreases-removing l = length l.dropped.table.live
