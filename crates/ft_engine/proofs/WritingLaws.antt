-- What a change of documents or definitions makes of them, whatever the cursors are.
use Rattle.std.specs.Prelude.{◌≡◌, ℕ, List, [], Option, None, Some, IsTrue, refl}
use Rattle.std.proofs.Common.{ap, ◌∙◌}
use Rattle.cursor_book.specs.declared.cursor.Cursor.{Cursor}
use Rattle.ft_base.specs.Docs.{Doc}
use Rattle.ft_index.specs.Index.{Index}
use Rattle.ft_machine.specs.Definitions.{Defined, index_of}
use Rattle.ft_machine.specs.Machine.{State}
use Rattle.indexed_store.proofs.ChangingLaws.{changes-something}
use Rattle.indexed_store.specs.Changing.{IsReady, changed, is_write, without_cursors_of}
use Rattle.indexed_store.specs.DefinitionsOf.{definitions_of}
use Rattle.indexed_store.specs.Standing.{AreWritten}
use Rattle.indexed_store.specs.declared.change.Change.{Change}
use Rattle.indexed_store.specs.declared.change.Change.TheVariants.{Nothing, Write, Move, EraseKey, EraseKeys, Create, Alter, Drop, DropMembers, OpenCursor, ReadCursor, CloseCursor, CloseCursors, Flush}
use Rattle.ft_engine.specs.Preparing.{Writes}

-- a state without cursors
abbrev pub bare : List Doc → List Defined → ℕ → State
bare docs definitions latest = record { space = docs; definitions = definitions; cursors = []; latest = latest }

-- where there are no cursors, none are left
none-left : (index : Option Defined) → without_cursors_of index [] ≡ []
none-left None = refl
none-left (Some index) = refl

-- such a change makes the same of documents and definitions where there are no cursors
bare-changed : (change : Change) (waits : Option Doc) (opens : Option Cursor) (state : State) → IsTrue (is_write change)
    → changed change waits opens (bare state.space state.definitions state.latest)
    ≡ bare (changed change waits opens state).space (changed change waits opens state).definitions state.latest
bare-changed Nothing waits opens state some = cc
bare-changed (Write put) waits opens state some = refl
bare-changed (Move put from) waits opens state some = refl
bare-changed (EraseKey key) waits opens state some = refl
bare-changed (EraseKeys keys) waits opens state some = refl
bare-changed (Create index) waits opens state some = refl
bare-changed (Alter index) waits opens state some = refl
bare-changed (Drop name) waits opens state some =
    ap (λ (cursors : List Cursor). record (bare state.space (changed (Drop name) waits opens state).definitions state.latest) { cursors = cursors })
    (none-left (index_of state.definitions name.now))
bare-changed (DropMembers name) waits opens state some =
    ap (λ (cursors : List Cursor). record (bare (changed (DropMembers name) waits opens state).space (changed (DropMembers name) waits opens state).definitions state.latest) { cursors = cursors })
    (none-left (index_of state.definitions name.now))
bare-changed OpenCursor waits opens state some = cc
bare-changed (ReadCursor place taken) waits opens state some = cc
bare-changed (CloseCursor place) waits opens state some = cc
bare-changed CloseCursors waits opens state some = cc
bare-changed Flush waits opens state some = refl

-- a change of documents or definitions that is ready leaves others
pub writes-something : (change : Change) (number : ℕ) (waits : Option Doc) (opens : Option Cursor) (indexes : List Index) (state : State) → AreWritten state.space number → state.definitions ≡ definitions_of indexes
    → IsReady change number state.space waits indexes → IsTrue (is_write change) → Writes state (changed change waits opens state)
writes-something change number waits opens indexes state documents definitions ready some docs defs =
    changes-something change number waits opens indexes (bare state.space state.definitions state.latest) documents definitions ready some
    (bare-changed change waits opens state some
    ∙ (ap (λ (docs : List Doc). bare docs (changed change waits opens state).definitions state.latest) docs
    ∙ ap (λ (defs : List Defined). bare state.space defs state.latest) defs))
