use Rattle.std.specs.Prelude.{◌≡◌, ℕ, drop}
use Rattle.indexed_store.specs.Listed.{KeepLists}
use Rattle.indexed_store.specs.Moving.{IndexesMove}
use Rattle.indexed_store.specs.Standing.{InStep}
use Rattle.indexed_store.specs.DefinitionsOf.{definitions_of}
use Rattle.ft_machine.specs.Definitions.{without_keys}
use Rattle.indexed_store.proofs.removals.remove_all.Given as goal

-- the keys so far are gone
abbrev pub invariant-loop-i : goal.invariant-loop-i
invariant-loop-i l = record {
  left : without_keys l.store.space (drop l.i l.keys) ≡ without_keys l.initial.store.space l.keys;
  rest : l.store ≡ record l.initial.store { space = l.store.space };
  kept : (next : ℕ) → InStep l.initial.store l.initial.indexes next → InStep l.store l.indexes next;
  definitions : definitions_of l.indexes ≡ definitions_of l.initial.indexes;
  lists : KeepLists l.initial.indexes l.indexes;
  moves : (event : ℕ) → IndexesMove event l.initial.indexes l.indexes;
}
