-- A stream cursor (RediSearch, FT.AGGREGATE with WITHCURSOR, without GROUPBY, SORTBY and LIMIT), and what a state has of it.
use Rattle.std.specs.Prelude.{◌≡◌, ℕ, List, [], filter, nat_eq, Bool, true, Option, Some, None, is_some, option_map}
use Rattle.std.specs.List.{find, list_any}
use Rattle.agg_pipeline.specs.Stream.{Stream}
use Rattle.cursor_book.specs.Cursors.{cursor_of}
use Rattle.cursor_book.specs.declared.cursor.Body.{Body}
use Rattle.cursor_book.specs.declared.cursor.Body.TheVariants as body
use Rattle.cursor_book.specs.declared.cursor.Cursor.{Cursor}
use Rattle.ft_base.specs.declared.definition.IndexDef.{IndexDef}
use Rattle.ft_base.specs.Docs.{Doc}
use Rattle.ft_base.specs.declared.query.Query.{Query}
use Rattle.ft_base.specs.declared.row.Row.{Row}
use Rattle.ft_machine.specs.Definitions.{Defined}
use Rattle.ft_machine.specs.Machine.{State}
use Rattle.ft_machine.specs.Parts.{stream_row, stream_taken}
use Rattle.ft_meaning.specs.Holds.{found_of}

-- what never changes of a stream cursor
pub record StreamCursor : Type 0 where
  -- the serial of its index
  pub serial : ℕ
  -- the number of the event that opened it
  pub id : ℕ
  -- how many rows a read gives that names no number
  pub count : ℕ
  pub query : Query
  -- LOAD, and the steps behind it
  pub stream : Stream

-- ---- the index, whose fields FT.ALTER may add to

abbrev pub has_serial : ℕ → Defined → Bool
has_serial serial index = nat_eq index.def.serial serial

abbrev pub def_of : Defined → IndexDef
def_of index = index.def

-- the index of a serial, where it is there
abbrev pub index_in : ℕ → State → Option IndexDef
index_in serial state = option_map def_of (find (has_serial serial) state.definitions)

-- ---- its documents

-- the documents that the cursor's query finds
abbrev pub found_in : StreamCursor → Option IndexDef → List Doc → List Doc
found_in cursor None docs = []
found_in cursor (Some def) docs = found_of cursor.query def docs

-- the row that its steps make of a document, where none drops it
abbrev pub row_in : StreamCursor → Option IndexDef → Doc → Option Row
row_in cursor None doc = None
row_in cursor (Some def) doc = stream_row def cursor.stream doc

abbrev pub gives_row : StreamCursor → Option IndexDef → Doc → Bool
gives_row cursor index doc = is_some (row_in cursor index doc)

-- the documents that match: its query finds them, and they give a row
abbrev pub hits_in : StreamCursor → Option IndexDef → List Doc → List Doc
hits_in cursor index docs = filter (gives_row cursor index) (found_in cursor index docs)

abbrev pub hits : StreamCursor → State → List Doc
hits cursor state = hits_in cursor (index_in cursor.serial state) state.space

abbrev pub has_id : ℕ → List Doc → Bool
has_id id docs = list_any (λ (doc : Doc). nat_eq doc.id id) docs

-- a document of this id matches
abbrev pub IsHit : StreamCursor → ℕ → State → Type 0
IsHit cursor id state = has_id id (hits cursor state) ≡ true

-- ---- a read

-- the documents that the machine takes for a read of so many rows, behind an id
abbrev pub taken_in : StreamCursor → Option IndexDef → ℕ → ℕ → List Doc → List Doc
taken_in cursor None after count docs = []
taken_in cursor (Some def) after count docs = stream_taken def cursor.stream after count (found_of cursor.query def docs)

-- those of them that give its rows
abbrev pub given_in : StreamCursor → Option IndexDef → ℕ → ℕ → List Doc → List Doc
given_in cursor index after count docs = filter (gives_row cursor index) (taken_in cursor index after count docs)

-- ---- how far it is read

abbrev pub after_left : Body → Option ℕ
after_left (body.Rows rows) = None
after_left (body.Stream query steps after) = Some after

abbrev pub after_of : Option Cursor → Option ℕ
after_of None = None
after_of (Some cursor) = after_left cursor.body

-- the id up to which it was read, where the cursor is there
abbrev pub after_in : StreamCursor → State → Option ℕ
after_in cursor state = after_of (cursor_of cursor.serial cursor.id state.cursors)
