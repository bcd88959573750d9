-- What was read of a cursor, and what is then to be done.
use Rattle.std.specs.Prelude.{◌≡◌, ◌⊎◌, ℕ, List, length, nat_le, unwrap_or, Bool, true, false, Option, Some, None, IsTrue, codes, if◌then◌else◌}
use Rattle.cmd_parse.specs.Aggregating.{Aggregating}
use Rattle.cmd_parse.specs.Asked.{Asked, Aggregate}
use Rattle.cmd_parse.specs.declared.aggregate_words.CursorSpec.{CursorSpec}
use Rattle.cursor_book.specs.Cursors.{body_left, cursors_of}
use Rattle.cursor_book.specs.declared.cursor.Body.{Body}
use Rattle.cursor_book.specs.declared.cursor.Cursor.{Cursor}
use Rattle.cursor_book.specs.declared.cursor.Taken.{Taken}
use Rattle.ft_base.specs.Memory.{out_of_memory}
use Rattle.ft_base.specs.Reply.{fits_wire, spelling}
use Rattle.ft_base.specs.declared.definition.IndexDef.{IndexDef}
use Rattle.ft_base.specs.Docs.{Doc}
use Rattle.ft_base.specs.declared.reply.Reply.TheVariants.{Fault}
use Rattle.ft_index.specs.Index.{Index}
use Rattle.ft_machine.specs.Aggregating.{rows_reply}
use Rattle.ft_machine.specs.Machine.{State}
use Rattle.ft_machine.specs.Opening.{kept, most_cursors, new_cursor}
use Rattle.ft_machine.specs.Parts.{Part, part_of, part_reply}
use Rattle.ft_machine.specs.Step.{Does, given}
use Rattle.indexed_store.specs.Changing.{changed}
use Rattle.indexed_store.specs.DefinitionsOf.{definitions_of}
use Rattle.indexed_store.specs.Holding.{Holding}
use Rattle.indexed_store.specs.Preparing.{Stays}
use Rattle.indexed_store.specs.declared.change.Change.{Change}
use Rattle.indexed_store.specs.declared.change.Change.TheVariants.{Nothing, OpenCursor, ReadCursor, CloseCursor}
use Rattle.ft_engine.specs.declared.indexes.opening.First.{First}
use Rattle.ft_engine.specs.declared.indexes.part.PartRead.{PartRead}
use Rattle.ft_engine.specs.declared.indexes.part.PartTold.{PartTold}

-- What a read gave is a part.
pub record IsRead (part : Part) (read : PartRead) : Type 0 where
  pub rows : read.rows ≡ rows_reply part.rows
  pub fits : IsTrue (fits_wire read.rows)
  pub taken : read.taken ≡ part.taken
  pub ends : read.ends ≡ part.ends

-- A part is told, with what it takes of the cursor; or memory ran out.
abbrev pub IsTold : Part → ℕ → Option PartTold → List ℕ → Type 0
IsTold part id None written = written ≡ spelling out_of_memory
IsTold part id (Some told) written = (told.taken ≡ part.taken) × (told.ends ≡ part.ends) × (written ≡ spelling (part_reply id part))

-- ---- a new cursor

-- what is left behind the first read, where it does not end the cursor
abbrev pub first_left : ℕ → Body → Taken → Bool → Option First
first_left serial body taken ends = if ends then None else Some (record { serial = serial; body = body_left taken body })

-- The first read of a body is told, and what is left is given; or memory ran out.
abbrev pub IsFirst : IndexDef → Body → List Doc → ℕ → ℕ → Option First → List ℕ → Type 0
IsFirst def body docs count number first written =
    let part = part_of def docs count body in
    ((first ≡ first_left def.serial body part.taken part.ends) × (written ≡ spelling (part_reply number part)))
    ⊎ ((first ≡ None) × (written ≡ spelling out_of_memory))

-- A first part is told, and a cursor for the others is to be kept, if its index has room for it.
pub record GoesOn (what : Aggregating) (spec : CursorSpec) (number : ℕ) (state : State) (first : First) (written : List ℕ) : Type 0 where
  pub part : Part
  pub told : written ≡ spelling (part_reply number part)
  pub gives : given (Aggregate what) number state (kept number (new_cursor first.serial spec number state.latest first.body) part state)

-- an aggregate is answered, but for the cursor that may be to be kept
abbrev pub DoesFirst : Aggregating → CursorSpec → ℕ → State → Option First → List ℕ → Type 0
DoesFirst what spec number state None written = Does (Aggregate what) number state written state
DoesFirst what spec number state (Some first) written = GoesOn what spec number state first written

-- the same over documents and indexes, whatever else there is
abbrev pub DoesFirstOver : Aggregating → CursorSpec → ℕ → List Doc → List Index → Option First → List ℕ → Type 0
DoesFirstOver what spec number space indexes first written =
    (state : State) → state.space ≡ space → state.definitions ≡ definitions_of indexes → DoesFirst what spec number state first written

-- a cursor waits, and the reply stays; or its index has too many, or memory ran out
abbrev pub KeptBy : Bool → Option Cursor → Cursor → List ℕ → List ℕ → Change → Type 0
KeptBy true opens cursor before written change = (written ≡ spelling (Fault (codes "Too many cursors"))) × (change ≡ Nothing)
KeptBy false opens cursor before written change =
    ((opens ≡ Some cursor) × (written ≡ before) × (change ≡ OpenCursor)) ⊎ ((written ≡ spelling out_of_memory) × (change ≡ Nothing))

-- What is left behind a first read is kept in this event, where there is room.
pub record IsKept (first : First) (spec : CursorSpec) (old new : Holding) (before written : List ℕ) (change : Change) : Type 0 where
  pub stays : Stays old new
  pub indexes : new.indexes ≡ old.indexes
  pub kept : KeptBy (nat_le most_cursors (length (cursors_of first.serial old.cursors))) new.opens
      (new_cursor first.serial spec old.next old.latest first.body) before written change

-- ---- a cursor that is there

-- what becomes of a cursor behind a read
abbrev pub change_left : Cursor → Part → Change
change_left cursor part =
    if part.ends then CloseCursor (record { serial = cursor.serial; id = cursor.id })
    else ReadCursor (record { serial = cursor.serial; id = cursor.id }) part.taken

-- The next read of a cursor is told, and what becomes of the cursor is given; or memory ran out.
abbrev pub IsNext : IndexDef → List Doc → Option ℕ → Cursor → Change → List ℕ → Type 0
IsNext def docs count cursor change written =
    let part = part_of def docs (unwrap_or count cursor.count) cursor.body in
    ((change ≡ change_left cursor part) × (written ≡ spelling (part_reply cursor.id part)))
    ⊎ ((change ≡ Nothing) × (written ≡ spelling out_of_memory))

-- A read of a cursor is answered over documents, indexes and cursors, whatever the number of its event, and its change is given.
abbrev pub IsReadOver : Asked → List Doc → List Index → List Cursor → Change → List ℕ → Type 0
IsReadOver asks space indexes cursors change written =
    (number : ℕ) (state : State) → state.space ≡ space → state.definitions ≡ definitions_of indexes → state.cursors ≡ cursors
    → Does asks number state written (changed change None None state)
