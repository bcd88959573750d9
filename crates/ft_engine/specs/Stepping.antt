-- One event of an engine, and that a history of such events is legal.
use Rattle.std.specs.Prelude.{◌≡◌, ◌≤◌, ◌<◌, ℕ, List, Option, Some, false}
use Rattle.ft_index.specs.declared.repairs.AnyRepair.{AnyRepair}
use Rattle.ft_index.specs.declared.repairs.AnyRepair.TheVariants as repairs
use Rattle.ft_index.specs.declared.snapshots.Snapshot.{Snapshot}
use Rattle.gc_splice.specs.declared.splice.Spliced.{Spliced}
use Rattle.gc_splice.specs.declared.splice.Spliced.TheVariants.{LastEvent}
use Rattle.id_iters.specs.declared.list_name.ListName.{ListName}
use Rattle.ft_machine.specs.Step.{Answers, last_number, next_number}
use Rattle.inverted_list.specs.declared.marker.Marker.{Marker}
use Rattle.indexed_store.specs.Moving.{IndexesMove}
use Rattle.indexed_store.specs.Parting.{ScansPart}
use Rattle.indexed_store.specs.Repairing.{ScansNamed, SplicesSerial, splice_marker}
use Rattle.ft_engine.specs.Cleaning.{KeepsClean}
use Rattle.ft_engine.specs.Stands.{Stands}

-- words are answered at a moment by a step of the machine, at the engine's number
abbrev pub AnswersAt : ℕ → List (List ℕ) → Stands → List ℕ → Stands → Type 0
AnswersAt moment words old written new = Answers words old.next moment old.state written new.state

-- the event is counted
abbrev pub Counts : Stands → Stands → Type 0
Counts old new = new.next ≡ next_number old.next

-- the engine once an event that was prepared has ended
abbrev pub ended : Stands → Stands
ended engine = record engine { next = next_number engine.next; pending = false }

-- The event leaves what there was: each index has only grown since, or is made in this event, and no id of before comes to
-- life.
pub record Moves (old new : Stands) : Type 0 where
  pub next : old.next ≤ new.next
  pub indexes : IndexesMove old.next old.indexes new.indexes

-- The index of a name is pictured at the engine's number, and nothing is exactly where there is no such index.
abbrev pub ScansAt : List ℕ → Stands → Option Snapshot → Type 0
ScansAt name engine taken = ScansNamed name engine.indexes engine.next taken

-- A part of the index of a name is pictured at a number, as the engine holds it then, and nothing is exactly where there is no such
-- index.
abbrev pub ScansPartAt : List ℕ → ℕ → Stands → Option Snapshot → Type 0
ScansPartAt name number engine taken = ScansPart name engine.indexes number taken

-- the engine once an event is counted that changes nothing
abbrev pub counted : Stands → Stands
counted engine = record engine { next = next_number engine.next }

-- the marker of the list that was pictured for a repair
abbrev pub seen_marker : AnyRepair → Marker
seen_marker (repairs.Word repair) = repair.seen
seen_marker (repairs.Tag repair) = repair.seen
seen_marker (repairs.Range repair) = repair.seen

-- the engine keeps the pictured marker of a repair that was spliced, and what became of it
abbrev pub KeepsLast : AnyRepair → Spliced → Stands → Type 0
KeepsLast repair outcome engine = engine.last ≡ Some (record { seen = seen_marker repair; answer = outcome })

-- A repair is laid over the list of a name in the index of a serial, under the marker of this event. At the last number there is
-- no event, and the lists stay as they are.
pub record SplicesAt (serial : ℕ) (name : ListName) (repair : AnyRepair) (old new : Stands) (outcome : Spliced) : Type 0 where
  pub last : last_number ≤ old.next → (outcome ≡ LastEvent) × (new.indexes ≡ old.indexes)
  pub splices : old.next < last_number → SplicesSerial serial name repair (splice_marker old.next) old.indexes new.indexes outcome

-- One event: a step of the machine of plain hashes, at the engine's number, and the next number.
pub record Steps (old : Stands) (moment : ℕ) (words : List (List ℕ)) (reply : List ℕ) (new : Stands) : Type 0 where
  pub answer : Answers words old.next moment old.state reply new.state
  pub next : new.next ≡ next_number old.next
  pub clean : KeepsClean old.next words old reply new
