-- The state of the machine that a store, its indexes and the cursors stand for.
use Rattle.std.specs.Prelude.{ℕ, List}
use Rattle.cursor_book.specs.declared.cursor.Cursor.{Cursor}
use Rattle.ft_index.specs.Index.{Index}
use Rattle.hash_store.specs.Store.{Store}
use Rattle.indexed_store.specs.DefinitionsOf.{definitions_of}
use Rattle.ft_machine.specs.Machine.{State}

-- the state that a store, its indexes and the cursors stand for at a moment
abbrev pub state_with : Store → List Index → List Cursor → ℕ → State
state_with store indexes cursors latest = record { space = store.space; definitions = definitions_of indexes; cursors = cursors; latest = latest }
