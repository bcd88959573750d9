-- What a cycle of the collector does: one scan, and the splices of the pictured lists that hold a dead entry.
use Rattle.std.specs.Prelude.{◌≡◌, ◌≢◌, ◌≤◌, ◌+◌, ◌-◌, ◌^◌, ℕ, min, not, Bool, true, false, if◌then◌else◌, List, [], ◌∷◌, ◌++◌, length, map, filter, sum_by, count_by, ⊤, Some, None}
use Rattle.std.specs.declared.option.Option.{Option}
use Rattle.std.specs.List.{All, AllByRecursion}
use Rattle.doc_table.specs.Pages.{has_id}
use Rattle.gc_splice.specs.declared.splice.Spliced.{Spliced}
use Rattle.gc_splice.specs.declared.splice.Spliced.TheVariants as spliced
use Rattle.id_iters.specs.declared.list_name.ListName.{ListName}
use Rattle.ft_index.specs.declared.snapshots.NamedPicture.{NamedPicture}
use Rattle.ft_index.specs.declared.snapshots.Snapshot.{Snapshot}
use Rattle.history_core.specs.Commands.{caller_of, own}
use Rattle.history_core.specs.Entries.{NoIndex, NoMemory, Scan, Scanned, Splice, Taken}
use Rattle.history_core.specs.Histories.{at}
use Rattle.turn_gate.specs.Known.{GateName, Known}
use Rattle.ft_engine.specs.Entries.{Entry}
use Rattle.ft_engine.specs.Pictures.{all_in}
use Rattle.ft_server.specs.Passes.{IsOf}
use Rattle.collector.specs.declared.cycle.Cycle.{Cycle}
use Rattle.collector.specs.declared.cycle.Cycle.TheVariants as cycles

-- whether a pictured list holds an entry that was dead at the scan
abbrev pub is_dirty : (ℕ → Bool) → NamedPicture → Bool
is_dirty live named = not (all_in live named.picture)

-- the names of those of these lists, in their order
abbrev pub dirty_among : (ℕ → Bool) → List NamedPicture → List ListName
dirty_among live lists = map (λ (named : NamedPicture). named.name) (filter (is_dirty live) lists)

-- the same of all lists that a snapshot pictures
abbrev pub dirty : Snapshot → List ListName
dirty snapshot = dirty_among (has_id snapshot.live) snapshot.lists

-- A splice that was made: the name of its list, and the answer.
pub record Tried : Type 0 where
  pub name : ListName
  pub answer : Spliced

abbrev pub names_of : List Tried → List ListName
names_of tried = map (λ (one : Tried). one.name) tried

-- the splices as a caller's entries, of lists that its scan at a place pictured
abbrev pub splices_of : ℕ → ℕ → List Tried → List Entry
splices_of caller scan tried = map (λ (one : Tried). Splice caller scan one.name one.answer) tried

-- none of the splices found that there is no number left for its event
abbrev pub NoneLast : List Tried → Type 0
NoneLast tried = AllByRecursion (λ (one : Tried). one.answer ≢ spliced.LastEvent) tried

-- what an answer is
abbrev pub is_done : Spliced → Bool
is_done (spliced.Done removed tail_kept) = true
is_done _ = false

abbrev pub is_moved : Spliced → Bool
is_moved (spliced.Moved seen now) = true
is_moved _ = false

abbrev pub is_gone : Spliced → Bool
is_gone spliced.Gone = true
is_gone _ = false

-- how many entries a splice took out
abbrev pub removed_by : Spliced → ℕ
removed_by (spliced.Done removed tail_kept) = removed
removed_by _ = 0

-- how many splices were done, found that their lists had moved on, and found them gone; and how many entries they took out, where
-- the sum stays at 2^64 - 1
abbrev pub done_in : List Tried → ℕ
done_in tried = count_by (λ (one : Tried). is_done one.answer) tried

abbrev pub moved_in : List Tried → ℕ
moved_in tried = count_by (λ (one : Tried). is_moved one.answer) tried

abbrev pub gone_in : List Tried → ℕ
gone_in tried = count_by (λ (one : Tried). is_gone one.answer) tried

abbrev pub removed_in : List Tried → ℕ
removed_in tried = min (sum_by (λ (one : Tried). removed_by one.answer) tried) (2 ^ 64 - 1)

-- How a cycle whose scan took a snapshot ended, by the splices that were tried and by the lists that were left. It is done where no
-- list was left, and its counts are those of the splices. The pace stopped it before a list that was left. There was no number left
-- for the last of its splices.
abbrev pub EndsBy : Cycle → List Tried → List ListName → Type 0
EndsBy (cycles.Done spliced moved gone removed) tried left =
    (left ≡ []) × NoneLast tried × (spliced ≡ done_in tried) × (moved ≡ moved_in tried) × (gone ≡ gone_in tried) × (removed ≡ removed_in tried)
EndsBy cycles.NoIndex tried left = ⊥
EndsBy cycles.Stopped tried left = (left ≢ []) × NoneLast tried
EndsBy cycles.NoMemory tried left = NoneLast tried
EndsBy cycles.LastEvent tried left = (before : List Tried) × (name : ListName) × (tried ≡ before ++ record { name = name; answer = spliced.LastEvent } ∷ []) × NoneLast before

-- What the scan took decides. Where it is a snapshot, the lists with a dead entry were tried in the picture's order with none
-- skipped, as far as the cycle came. Else nothing was tried.
abbrev pub EndsWith : Scanned Snapshot → Cycle → List Tried → Type 0
EndsWith (Taken snapshot) cycle tried = (left : List ListName) × (dirty snapshot ≡ names_of tried ++ left) × EndsBy cycle tried left
EndsWith NoIndex cycle tried = (cycle ≡ cycles.NoIndex) × (tried ≡ [])
EndsWith NoMemory cycle tried = (cycle ≡ cycles.NoMemory) × (tried ≡ [])

-- whether the pace's last answer was to stop
abbrev pub stops : Cycle → Bool
stops cycles.Stopped = true
stops _ = false

-- how often a cycle that ended so asks the pace, by its splices: before each, and once more where it said to stop
abbrev pub asks_of : ℕ → Cycle → ℕ
asks_of splices cycle = if stops cycle then splices + 1 else splices

-- A pace that tells how often it was asked was asked so often. It may stop telling, and then does not begin again.
abbrev pub AskedTimes : Option ℕ → Option ℕ → ℕ → Type 0
AskedTimes None None times = ⊤
AskedTimes None (Some after) times = ⊥
AskedTimes (Some before) None times = ⊤
AskedTimes (Some before) (Some after) times = after ≡ before + times

-- A cycle over the index of a name, by a pass of a server: what it left of the pass and of the pace, and how it ended. The caller's
-- own entries since are one scan and then the splices, each made in a turn of its own.
pub record Cycled (server : GateName) (pass pass' : Known Entry) (index : List ℕ) (asked asked' : Option ℕ) (is_stopped : Bool) (cycle : Cycle) : Type 0 where
  pub of : IsOf server pass'
  pub same : (pass'.caller ≡ pass.caller) × (pass'.alone ≡ pass.alone)
  pub took : Scanned Snapshot
  pub tried : List Tried
  -- what came behind what the pass had seen, and what of it is the caller's own: all, where it is alone
  pub added : List Entry
  pub seen : pass'.seen ≡ pass.seen ++ added
  pub scan : ℕ
  pub own_are : own pass.caller added ≡ Scan pass.caller index took ∷ splices_of pass.caller scan tried
  pub alone : pass.alone ≡ true → All (λ (entry : Entry). caller_of entry ≡ pass.caller) added
  -- a turn for each
  pub turns : pass'.turns ≡ pass.turns + length (own pass.caller added)
  -- the scan whose pictures the splices name is this one
  pub new : length pass.seen ≤ scan
  pub there : at pass'.seen scan ≡ Some (Scan pass.caller index took)
  pub ends : EndsWith took cycle tried
  pub asks : AskedTimes asked asked' (asks_of (length tried) cycle)
  pub stopped : is_stopped ≡ stops cycle
