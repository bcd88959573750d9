-- What a command that is prepared becomes once it is committed.
use Rattle.std.specs.Prelude.{◌≡◌, ◌≢◌, ◌<◌, ◌⊎◌, ℕ, List, false, true, IsTrue}
use Rattle.cmd_parse.specs.Reading.{command_of}
use Rattle.cmd_parse.specs.declared.command.Command.{Command}
use Rattle.ft_base.specs.Memory.{out_of_memory}
use Rattle.ft_base.specs.Reply.{spelling}
use Rattle.indexed_store.specs.Changing.{IsReady, changed, is_change, is_write}
use Rattle.indexed_store.specs.Listed.{Enters, Gathers, KeepsLists}
use Rattle.indexed_store.specs.Standing.{AreWritten}
use Rattle.indexed_store.specs.declared.change.Change.{Change}
use Rattle.indexed_store.specs.declared.change.Change.TheVariants.{Nothing}
use Rattle.ft_machine.specs.Machine.{State}
use Rattle.ft_machine.specs.Step.{At, last_number, outcomes}
use Rattle.ft_engine.specs.Stands.{Stands}

-- the engine's state once a prepared command is committed
abbrev pub committed : Change → Stands → State
committed change engine = changed change engine.waits engine.opens engine.state

-- Once this change is committed, the command is a step of the machine, at this event's number.
abbrev pub StepsBy : Command → ℕ → Stands → List ℕ → Change → Stands → Type 0
StepsBy command moment old written change new =
    At old.next moment (outcomes (command_of command) old.next) old.state written (committed change new)

-- Documents or definitions differ: where the documents are the same, the definitions are not.
abbrev pub Writes : State → State → Type 0
Writes old new = new.space ≡ old.space → new.definitions ≢ old.definitions

-- a change that is said to write leaves others
abbrev pub WritesAsSaid : Change → Stands → Type 0
WritesAsSaid change engine = IsTrue (is_write change) → Writes engine.state (committed change engine)

-- Unless memory ran out: where it writes a document, that is entered into the lists of the indexes of which it is a member, and
-- else nothing is entered, nor taken out but by FT.DEBUG, which takes out all dead entries of the index that it names.
abbrev pub EntersAsSaid : Command → Change → Stands → List ℕ → Stands → Type 0
EntersAsSaid command change old written new =
    (written ≡ spelling out_of_memory)
    ⊎ (Enters change new.waits old.indexes new.indexes ⊎ Gathers (command_of command) old.indexes new.indexes)

-- and then its commit reads no document
abbrev pub CommitReads : Change → Stands → Stands → Type 0
CommitReads change old new = is_write change ≡ false → new.reads ≡ old.reads

-- each index keeps its lists, unless it is made, altered or dropped
abbrev pub CommitKeepsLists : Change → Stands → Stands → Type 0
CommitKeepsLists change old new = KeepsLists change old.indexes new.indexes

-- where nothing is to be changed, a commit leaves the indexes as they are
abbrev pub CommitKeeps : Change → Stands → Stands → Type 0
CommitKeeps change old new = change ≡ Nothing → new.indexes ≡ old.indexes

-- A prepared command fits the engine, as the one does that it prepared last: what it changes is ready.
pub record IsLast (change : Change) (engine : Stands) : Type 0 where
  pub pending : engine.pending ≡ true
  pub before : IsTrue (is_change change) → engine.next < last_number
  pub documents : AreWritten engine.state.space engine.next
  pub ready : IsReady change engine.next engine.state.space engine.waits engine.indexes
