-- What a contract sees of the documents, the indexes over them and the cursors, as one value.
use Rattle.std.specs.Prelude.{◌≡◌, ◌≤◌, ◌<◌, ◌++◌, ℕ, List, [], Option, None, Some, length, map, max, option_to_list}
use Rattle.std.specs.Coded.{Coded, codes}
use Rattle.std.specs.List.{All, AllByRecursion, AllPairs, IsDistinct}
use Rattle.std.specs.Str.{bytes_eq}
use Rattle.cursor_book.specs.Cursors.{cursor_of, live, without}
use Rattle.cursor_book.specs.contracts.cursor.Cursor as cursor
use Rattle.cursor_book.specs.declared.cursor.Cursor.{Cursor}
use Rattle.ft_base.specs.Docs.{Doc}
use Rattle.ft_index.specs.Index.{Index}
use Rattle.ft_machine.specs.Indexes.{most_indexes}
use Rattle.ft_machine.specs.Machine.{State}
use Rattle.ft_machine.specs.PlainCommands.{most_counted}
use Rattle.hash_store.specs.Store.{Store}
use Rattle.indexed_store.specs.DefinitionsOf.{definitions_of}
use Rattle.indexed_store.specs.declared.waiting.CursorPlace.{CursorPlace}
use Rattle.indexed_store.specs.Standing.{AreApart, AreWritten, IndexStands, InStep, markers_at}

pub record Holding : Type 0 where
  -- the documents, in order of ids and with distinct keys
  pub space : List Doc
  -- the indexes, in order of creation
  pub indexes : List Index
  -- the cursors that are open, in order of ids
  pub cursors : List Cursor
  -- the latest moment of an event
  pub latest : ℕ
  -- the document that was prepared last, until it is written
  pub waits : Option Doc
  -- the cursor that was prepared last, until it is open
  pub opens : Option Cursor
  -- how many documents were read
  pub reads : ℕ
  -- a number above those of all documents, markers and cursors; the next event has it or a later one
  pub next : ℕ

-- it is stored as its fields are
pub holding_code : Coded Holding
holding_code = Prim.hlevel (codes, cursor.the_row.coded)

-- no two documents have the same key
abbrev pub HaveDistinctKeys : List Doc → Type 0
HaveDistinctKeys docs = IsDistinct bytes_eq (map (λ (doc : Doc). doc.key) docs)

-- ---- the cursor that waits is in the book already, where nobody sees it

-- the cursors that are seen, where the one of a place waits
abbrev pub seen : Option CursorPlace → List Cursor → List Cursor
seen None book = book
seen (Some place) book = without place.serial place.id book

-- the cursor that waits
abbrev pub waiting : Option CursorPlace → List Cursor → Option Cursor
waiting None book = None
waiting (Some place) book = cursor_of place.serial place.id book

abbrev pub holding_of : Store → List Index → List Cursor → Option CursorPlace → ℕ → ℕ → Holding
holding_of store indexes book opens latest next = record {
  space = store.space;
  indexes = indexes;
  cursors = seen opens book;
  latest = latest;
  waits = store.ready;
  opens = waiting opens book;
  reads = store.reads;
  next = next;
}

-- no documents, no indexes and no cursors, before the event of the number 1
abbrev pub nothing_held : Holding
nothing_held = record { space = []; indexes = []; cursors = []; latest = 0; waits = None; opens = None; reads = 0; next = 1 }

-- the state of the machine that they stand for
abbrev pub state_of : Holding → State
state_of held = record { space = held.space; definitions = definitions_of held.indexes; cursors = held.cursors; latest = held.latest }

-- An event of this number begins at a moment: cursors that are idle are gone, and so is one that was never opened.
abbrev pub begun : ℕ → ℕ → Holding → Holding
begun number moment held =
    let now = max moment held.latest in record held { next = number; cursors = live now held.cursors; latest = now; opens = None }

-- ---- what is kept between calls

-- The ids of cursors are numbers of earlier events, and the one that waits is the last.
pub record IsBook (opens : Option CursorPlace) (book : List Cursor) (next : ℕ) : Type 0 where
  pub earlier : AllByRecursion (λ cursor. cursor.id < next) book
  pub last : book ≡ seen opens book ++ option_to_list (waiting opens book)

-- Each index stands for the documents, no two share a marker, and there is room for as many indexes as there may be, and
-- for counting keys.
pub record IsHolding (store : Store) (indexes : List Index) (book : List Cursor) (opens : Option CursorPlace)
    (capacity counting next : ℕ) : Type 0 where
  pub step : InStep store indexes next
  pub kept : IsBook opens book next
  pub few : length indexes ≤ most_indexes
  pub room : most_indexes ≤ capacity
  pub ids : most_counted ≤ counting

-- The documents are of events before this number, each index stands for them, and no two share a marker.
pub record AllStand (number : ℕ) (held : Holding) : Type 0 where
  pub documents : AreWritten held.space number
  pub indexes : All (IndexStands held.space number (markers_at number)) held.indexes
  pub apart : AllPairs AreApart held.indexes
