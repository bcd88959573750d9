-- What a command leaves: one that reads, one that is prepared, and the change that is made of it.
use Rattle.std.specs.Prelude.{◌≡◌, ◌≤◌, ◌<◌, ◌+◌, ◌⊎◌, ℕ, List, Some, IsTrue}
use Rattle.std.specs.List.{All}
use Rattle.cmd_parse.specs.Asked.{Asked}
use Rattle.ft_base.specs.Hash.{Hash}
use Rattle.ft_base.specs.Memory.{out_of_memory}
use Rattle.ft_base.specs.Reply.{spelling}
use Rattle.ft_base.specs.declared.definition.IndexDef.{IndexDef}
use Rattle.ft_index.specs.Index.{Index}
use Rattle.ft_machine.specs.Definitions.{failures_over}
use Rattle.ft_machine.specs.Step.{Does, last_number}
use Rattle.indexed_store.specs.Changing.{IsReady, changed, is_change}
use Rattle.indexed_store.specs.DefinitionsOf.{definitions_of}
use Rattle.indexed_store.specs.Holding.{Holding, state_of}
use Rattle.indexed_store.specs.Listed.{Enters, EntersDoc, Gathers}
use Rattle.indexed_store.specs.Moving.{IndexesMove}
use Rattle.indexed_store.specs.Standing.{AreApart, AreOfEvent, AreWritten, IndexStands, markers_at}
use Rattle.indexed_store.specs.Writing.{Waits}
use Rattle.indexed_store.specs.declared.change.Change.{Change}

-- a number is left for this event
abbrev pub HasNumber : Holding → Type 0
HasNumber held = held.next < last_number

-- Documents were read at most.
pub record OnlyReads (old new : Holding) : Type 0 where
  pub space : new.space ≡ old.space
  pub indexes : new.indexes ≡ old.indexes
  pub cursors : new.cursors ≡ old.cursors
  pub latest : new.latest ≡ old.latest
  pub waits : new.waits ≡ old.waits
  pub opens : new.opens ≡ old.opens
  pub next : new.next ≡ old.next

-- Nothing is seen of what may wait. The event's number is given at most. Each index was there and has only grown since.
pub record Stays (old new : Holding) : Type 0 where
  pub space : new.space ≡ old.space
  pub definitions : definitions_of new.indexes ≡ definitions_of old.indexes
  pub cursors : new.cursors ≡ old.cursors
  pub latest : new.latest ≡ old.latest
  pub next : new.next ≤ old.next + 1
  pub moves : IndexesMove old.next old.indexes new.indexes

-- A key's hash waits to be written in this event, in the store and in each index.
pub record WaitsFor (key : List ℕ) (hash : Hash) (put : ℕ) (old new : Holding) : Type 0 where
  pub ready : new.waits ≡ Some (record { id = old.next; key = key; hash = hash })
  pub waits : Waits put old.next new.space new.indexes new.waits
  pub enters : EntersDoc (record { id = old.next; key = key; hash = hash }) old.indexes new.indexes

-- A change is ready in this event. A document that waits is entered where it is a member, and nothing else is.
pub record IsPrepared (change : Change) (old new : Holding) : Type 0 where
  pub ready : IsReady change old.next new.space new.waits new.indexes
  pub enters : Enters change new.waits old.indexes new.indexes

-- A command is prepared in this event: its reply is written, its change is ready, and nothing is seen of it yet.
pub record Prepares (asks : Asked) (old new : Holding) (written : List ℕ) (change : Change) : Type 0 where
  pub does : Does asks old.next (state_of old) written (changed change new.waits new.opens (state_of old))
  pub stays : Stays old new
  pub ready : IsReady change old.next new.space new.waits new.indexes
  -- Unless memory ran out, a document that waits is entered where it is a member, and nothing else is, nor is anything taken out
  -- but by FT.DEBUG, which takes out all dead entries of the index that it names.
  pub enters : (written ≡ spelling out_of_memory) ⊎ (Enters change new.waits old.indexes new.indexes ⊎ Gathers asks old.indexes new.indexes)

-- A change of the event of this number can be made.
pub record CanMake (change : Change) (number : ℕ) (held : Holding) : Type 0 where
  pub documents : AreWritten held.space number
  pub next : held.next ≤ number + 1
  pub before : IsTrue (is_change change) → number < last_number
  pub ready : IsReady change number held.space held.waits held.indexes

-- An index of this event has tried each document, and its lists are its own.
pub record IsMade (def : IndexDef) (count : ℕ) (index : Index) (old new : Holding) : Type 0 where
  pub same : index.def ≡ def
  pub failures : index.failures ≡ failures_over def old.space count
  pub stands : IndexStands new.space (old.next + 1) (markers_at (old.next + 1)) index
  pub apart : All (AreApart index) old.indexes
  pub given : AreOfEvent old.next index
