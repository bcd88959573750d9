-- What is done with one list after another. No public clause cites this file.
use Rattle.std.specs.Prelude.{◌≡◌, ◌<◌, ◌≤◌, ◌+◌, ◌-◌, ◌^◌, ℕ, min, Bool, true, false, List, [], ◌∷◌, ◌++◌, length, drop, Some, None}
use Rattle.std.specs.declared.option.Option.{Option}
use Rattle.std.specs.List.{All}
use Rattle.doc_table.specs.Pages.{has_id}
use Rattle.fs_ports.specs.Paces.{AskedOnce}
use Rattle.gc_splice.specs.declared.splice.Spliced.{Spliced}
use Rattle.gc_splice.specs.declared.splice.Spliced.TheVariants as spliced
use Rattle.id_iters.specs.declared.list_name.ListName.{ListName}
use Rattle.ft_index.specs.declared.snapshots.NamedPicture.{NamedPicture}
use Rattle.ft_index.specs.declared.snapshots.Snapshot.{Snapshot}
use Rattle.history_core.specs.Commands.{caller_of, own}
use Rattle.history_core.specs.Entries.{Splice}
use Rattle.turn_gate.specs.Known.{GateName, Known}
use Rattle.ft_engine.specs.Entries.{Entry}
use Rattle.ft_server.specs.Passes.{AddsEntry, IsOf, last_scan}
use Rattle.collector.specs.Cycles.{AskedTimes, EndsBy, NoneLast, Tried, asks_of, dirty, dirty_among, done_in, gone_in, is_dirty, moved_in, names_of, removed_in, splices_of, stops}
use Rattle.collector.specs.declared.counts.Counts.{Counts}
use Rattle.collector.specs.declared.cycle.Cycle.{Cycle}
use Rattle.collector.specs.declared.cycle.Cycle.TheVariants as cycles
use Rattle.collector.specs.declared.cycle.Step.{Step}
use Rattle.collector.specs.declared.cycle.Step.TheVariants as steps

-- the end that a step brings
abbrev pub ending : Step → Option Cycle
ending steps.Clean = None
ending (steps.Tried (spliced.Done removed tail_kept)) = None
ending (steps.Tried (spliced.Moved seen now)) = None
ending (steps.Tried spliced.Gone) = None
ending (steps.Tried spliced.LastEvent) = Some cycles.LastEvent
ending steps.Stopped = Some cycles.Stopped
ending steps.NoMemory = Some cycles.NoMemory

-- the counts behind an answer, and behind a step
abbrev pub counted : Counts → Spliced → Counts
counted counts (spliced.Done removed tail_kept) = record counts { spliced = counts.spliced + 1; removed = min (counts.removed + removed) (2 ^ 64 - 1) }
counted counts (spliced.Moved seen now) = record counts { moved = counts.moved + 1 }
counted counts spliced.Gone = record counts { gone = counts.gone + 1 }
counted counts spliced.LastEvent = counts

abbrev pub counted_step : Counts → Step → Counts
counted_step counts steps.Clean = counts
counted_step counts (steps.Tried answer) = counted counts answer
counted_step counts steps.Stopped = counts
counted_step counts steps.NoMemory = counts

-- they have room for one more
abbrev pub HasRoom : Counts → Type 0
HasRoom counts = (counts.spliced + 1 < 2 ^ 64) × (counts.moved + 1 < 2 ^ 64) × (counts.gone + 1 < 2 ^ 64)

-- the end that they are told with
abbrev pub ended : Counts → Cycle
ended counts = cycles.Done counts.spliced counts.moved counts.gone counts.removed

-- they are those of these splices
pub record AreCounts (tried : List Tried) (counts : Counts) : Type 0 where
  pub spliced : counts.spliced ≡ done_in tried
  pub moved : counts.moved ≡ moved_in tried
  pub gone : counts.gone ≡ gone_in tried
  pub removed : counts.removed ≡ removed_in tried

-- a list's splice was made in a turn
pub record Tries (named : NamedPicture) (pass pass' : Known Entry) (answer : Spliced) : Type 0 where
  pub same : (pass'.caller ≡ pass.caller) × (pass'.alone ≡ pass.alone)
  pub turns : pass'.turns ≡ pass.turns + 1
  pub adds : AddsEntry pass pass' (Splice pass.caller (last_scan pass.caller pass.seen) named.name answer)

-- what was done with one list, of the pass and of a pace that was not stopped
abbrev pub Did : Snapshot → NamedPicture → Known Entry → Known Entry → Option ℕ → Option ℕ → Bool → Step → Type 0
Did snapshot named pass pass' asked asked' is_stopped steps.Clean = (pass' ≡ pass) × (is_dirty (has_id snapshot.live) named ≡ false) × (asked' ≡ asked) × (is_stopped ≡ false)
Did snapshot named pass pass' asked asked' is_stopped (steps.Tried answer) = (is_dirty (has_id snapshot.live) named ≡ true) × AskedOnce asked asked' × (is_stopped ≡ false) × Tries named pass pass' answer
Did snapshot named pass pass' asked asked' is_stopped steps.Stopped = (pass' ≡ pass) × (is_dirty (has_id snapshot.live) named ≡ true) × AskedOnce asked asked' × (is_stopped ≡ true)
Did snapshot named pass pass' asked asked' is_stopped steps.NoMemory = (pass' ≡ pass) × (asked' ≡ asked) × (is_stopped ≡ false)

-- Since the scan, of the lists with a dead entry these were tried, and those are left.
pub record Ran (server : GateName) (snapshot : Snapshot) (start pass : Known Entry) (tried : List Tried) (left : List ListName) : Type 0 where
  pub of : IsOf server pass
  pub same : (pass.caller ≡ start.caller) × (pass.alone ≡ start.alone)
  pub added : List Entry
  pub seen : pass.seen ≡ start.seen ++ added
  pub own_are : own start.caller added ≡ splices_of start.caller (last_scan start.caller start.seen) tried
  pub alone : start.alone ≡ true → All (λ (entry : Entry). caller_of entry ≡ start.caller) added
  pub scan : last_scan start.caller pass.seen ≡ last_scan start.caller start.seen
  pub turns : pass.turns ≡ start.turns + length tried
  pub names : dirty snapshot ≡ names_of tried ++ left

-- what holds before the list of a number
pub record Going (server : GateName) (snapshot : Snapshot) (start pass : Known Entry) (number : ℕ) (counts : Counts) (asked asked' : Option ℕ) (is_stopped : Bool) : Type 0 where
  pub tried : List Tried
  pub ran : Ran server snapshot start pass tried (dirty_among (has_id snapshot.live) (drop number snapshot.lists))
  pub few : length tried ≤ number
  pub none_last : NoneLast tried
  pub counts_are : AreCounts tried counts
  pub asks : AskedTimes asked asked' (length tried)
  pub going : is_stopped ≡ false

-- what was done behind the scan, and how it ended
pub record Collected (server : GateName) (snapshot : Snapshot) (start pass : Known Entry) (asked asked' : Option ℕ) (is_stopped : Bool) (cycle : Cycle) : Type 0 where
  pub tried : List Tried
  pub left : List ListName
  pub ran : Ran server snapshot start pass tried left
  pub ends : EndsBy cycle tried left
  pub asks : AskedTimes asked asked' (asks_of (length tried) cycle)
  pub stopped : is_stopped ≡ stops cycle
