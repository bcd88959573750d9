-- What a command changes once it is committed, and what has to be ready for it.
use Rattle.std.specs.Prelude.{◌≢◌, ◌<◌, ◌+◌, ◌⊎◌, ℕ, List, [], ◌∷◌, ◌++◌, length, Option, Some, None, is_some, option_to_list, Bool, true, false, IsTrue}
use Rattle.std.specs.List.{All}
use Rattle.cursor_book.specs.Cursors.{read, without, without_index as without_cursors}
use Rattle.cursor_book.specs.declared.cursor.Cursor.{Cursor}
use Rattle.ft_base.specs.Space.{doc_of, erase}
use Rattle.ft_base.specs.Docs.{Doc}
use Rattle.ft_index.specs.Index.{Index}
use Rattle.ft_machine.specs.Definitions.{Defined, all_tried, index_of, with_index, without_index, without_keys, without_members}
use Rattle.indexed_store.specs.DefinitionsOf.{defined, definitions_of}
use Rattle.indexed_store.specs.Standing.{AreApart, AreOfEvent, IndexStands, markers_at}
use Rattle.indexed_store.specs.Writing.{Waits, written}
use Rattle.ft_machine.specs.Indexes.{most_indexes}
use Rattle.ft_machine.specs.Machine.{State}
use Rattle.indexed_store.specs.declared.change.Change.{Change}
use Rattle.indexed_store.specs.declared.change.Change.TheVariants.{Nothing, Write, Move, EraseKey, EraseKeys, Create, Alter, Drop, DropMembers, OpenCursor, ReadCursor, CloseCursor, CloseCursors, Flush}

-- the cursors but those of an index, where there is the index
abbrev pub without_cursors_of : Option Defined → List Cursor → List Cursor
without_cursors_of None cursors = cursors
without_cursors_of (Some index) cursors = without_cursors index.def.serial cursors

-- The state once a change is made, of which the document and the cursor that wait may be a part.
abbrev pub changed : Change → Option Doc → Option Cursor → State → State
changed Nothing waits opens state = state
changed (Write put) waits opens state = record state { space = written waits state.space; definitions = all_tried waits state.definitions }
changed (Move put from) waits opens state =
    record state { space = erase (written waits state.space) from.now; definitions = all_tried waits state.definitions }
changed (EraseKey key) waits opens state = record state { space = erase state.space key.now }
changed (EraseKeys keys) waits opens state = record state { space = without_keys state.space keys }
changed (Create index) waits opens state = record state { definitions = state.definitions ++ defined index ∷ [] }
changed (Alter index) waits opens state = record state { definitions = with_index state.definitions (defined index) }
changed (Drop name) waits opens state = record state {
  definitions = without_index state.definitions name.now;
  cursors = without_cursors_of (index_of state.definitions name.now) state.cursors;
}
changed (DropMembers name) waits opens state = record state {
  space = without_members (index_of state.definitions name.now) state.space;
  definitions = without_index state.definitions name.now;
  cursors = without_cursors_of (index_of state.definitions name.now) state.cursors;
}
changed OpenCursor waits opens state = record state { cursors = state.cursors ++ option_to_list opens }
changed (ReadCursor place taken) waits opens state = record state { cursors = read place.serial place.id state.latest taken state.cursors }
changed (CloseCursor place) waits opens state = record state { cursors = without place.serial place.id state.cursors }
changed CloseCursors waits opens state = record state { cursors = [] }
changed Flush waits opens state = record state { space = []; definitions = []; cursors = [] }

-- whether anything changes
abbrev pub is_change : Change → Bool
is_change Nothing = false
is_change _ = true

-- whether documents or definitions change
abbrev pub is_write : Change → Bool
is_write Nothing = false
is_write (Write put) = true
is_write (Move put from) = true
is_write (EraseKey key) = true
is_write (EraseKeys keys) = true
is_write (Create index) = true
is_write (Alter index) = true
is_write (Drop name) = true
is_write (DropMembers name) = true
is_write OpenCursor = false
is_write (ReadCursor place taken) = false
is_write (CloseCursor place) = false
is_write CloseCursors = false
is_write Flush = true

-- Nothing changes but documents. That a cursor opens changes none of what there is: it is what waits.
abbrev pub IsOfDocuments : Change → Type 0
IsOfDocuments Nothing = Unit {0}
IsOfDocuments (Write put) = Unit {0}
IsOfDocuments (Move put from) = Unit {0}
IsOfDocuments (EraseKey key) = Unit {0}
IsOfDocuments (EraseKeys keys) = Unit {0}
IsOfDocuments OpenCursor = Unit {0}
IsOfDocuments _ = ⊥

-- a key that is not that of the document that waits
abbrev pub IsOther : List ℕ → Option Doc → Type 0
IsOther from None = ⊥
IsOther from (Some doc) = from ≢ doc.key

-- an index has more fields than the one whose place it takes
abbrev pub HasMore : Option Defined → Index → Type 0
HasMore None index = ⊥
HasMore (Some old) index = length old.def.fields < length index.def.fields

-- A change can be made without memory, and one of documents or definitions changes something: what it needs is ready in the
-- store and in the indexes.
abbrev pub IsReady : Change → ℕ → List Doc → Option Doc → List Index → Type 0
IsReady Nothing number space waits indexes = Unit {0}
IsReady (Write put) number space waits indexes = Waits put number space indexes waits
IsReady (Move put from) number space waits indexes = Waits put number space indexes waits × IsOther from.now waits
IsReady (EraseKey key) number space waits indexes = IsTrue (is_some (doc_of space key.now))
IsReady (EraseKeys keys) number space waits indexes = length (without_keys space keys) < length space
IsReady (Create index) number space waits indexes =
    (length indexes < most_indexes) × IndexStands space (number + 1) (markers_at (number + 1)) index × All (AreApart index) indexes × AreOfEvent number index
IsReady (Alter index) number space waits indexes =
    HasMore (index_of (definitions_of indexes) index.def.name) index × IndexStands space (number + 1) (markers_at (number + 1)) index
    × All (AreApart index) indexes × AreOfEvent number index
IsReady (Drop name) number space waits indexes = IsTrue (is_some (index_of (definitions_of indexes) name.now))
IsReady (DropMembers name) number space waits indexes = IsTrue (is_some (index_of (definitions_of indexes) name.now))
IsReady OpenCursor number space waits indexes = Unit {0}
IsReady (ReadCursor place taken) number space waits indexes = Unit {0}
IsReady (CloseCursor place) number space waits indexes = Unit {0}
IsReady CloseCursors number space waits indexes = Unit {0}
IsReady Flush number space waits indexes = (0 < length space) ⊎ (0 < length indexes)
