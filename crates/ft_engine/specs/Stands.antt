-- What an engine stands for, and how its indexes stand for the documents.
use Rattle.std.specs.Prelude.{◌≡◌, ◌≤◌, ℕ, List, [], Option, None, Bool, true, false, map, nat_lt, if◌then◌else◌}
use Rattle.std.specs.List.{All, AllPairs, IsDistinct}
use Rattle.std.specs.Str.{bytes_eq}
use Rattle.cursor_book.specs.declared.cursor.Cursor.{Cursor}
use Rattle.ft_base.specs.Docs.{Doc}
use Rattle.ft_index.specs.Index.{Index}
use Rattle.indexed_store.specs.DefinitionsOf.{definitions_of}
use Rattle.indexed_store.specs.Holding.{Holding, state_of}
use Rattle.indexed_store.specs.Standing.{AreApart, AreWritten, IndexStands, markers_at}
use Rattle.ft_machine.specs.Machine.{State, at_moment, empty_state}
use Rattle.ft_engine.specs.declared.last_splice.LastSplice.{LastSplice}
use Rattle.ft_machine.specs.Step.{last_number, next_number}

pub record Stands : Type 0 where
  pub state : State
  -- the number of the next event, which is that of an event that is prepared
  pub next : ℕ
  -- the indexes, in order of creation
  pub indexes : List Index
  -- the document that was prepared last, until it is written
  pub waits : Option Doc
  -- the cursor that was prepared last, until it is open
  pub opens : Option Cursor
  -- whether an event is prepared, and neither committed nor abandoned
  pub pending : Bool
  -- how many documents were read
  pub reads : ℕ
  -- the splice that was last, if there was one
  pub last : Option LastSplice

-- what the documents, indexes and cursors that are held stand for, before an event of this number
abbrev pub stands_of : Holding → ℕ → Bool → Option LastSplice → Stands
stands_of held next pending last = record {
  state = state_of held;
  next = next;
  indexes = held.indexes;
  waits = held.waits;
  opens = held.opens;
  pending = pending;
  reads = held.reads;
  last = last;
}

-- an engine without documents, indexes and cursors, whose first event has this number
abbrev pub opened : ℕ → Stands
opened first = record { state = empty_state; next = first; indexes = []; waits = None; opens = None; pending = false; reads = 0; last = None }

-- The state once an event of this number has begun at a moment: the moment counts, and cursors that are idle are gone. At the
-- last number none begins.
abbrev pub begun : ℕ → ℕ → State → State
begun number moment state = if nat_lt number last_number then at_moment moment state else state

-- a number above those of all documents, markers and cursors: that of the next event, or the one behind an event that is prepared
abbrev pub unused : Bool → ℕ → ℕ
unused true next = next_number next
unused false next = next

-- The keys of the documents differ. There is an index for each definition, and each stands for the documents. No list of
-- one index has the marker of a list of another.
pub record IsIndexed (engine : Stands) : Type 0 where
  pub definitions : engine.state.definitions ≡ definitions_of engine.indexes
  pub keys : IsDistinct bytes_eq (map (λ (doc : Doc). doc.key) engine.state.space)
  pub documents : AreWritten engine.state.space (unused engine.pending engine.next)
  pub indexes : All (IndexStands engine.state.space (unused engine.pending engine.next) (markers_at (unused engine.pending engine.next))) engine.indexes
  pub apart : AllPairs AreApart engine.indexes

-- What an engine keeps between calls: what is held is of earlier events.
pub record IsEngine (held : Holding) (pending : Bool) (next : ℕ) : Type 0 where
  pub number : next ≤ last_number
  pub earlier : held.next ≤ unused pending next
