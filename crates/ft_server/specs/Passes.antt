-- The passes of a server: what a pass has seen, and what a turn adds to it.
use Rattle.std.specs.Prelude.{◌≡◌, ◌≢◌, ℕ, suc, Some, List, [], ◌∷◌, ◌++◌, Bool, true, false, nat_eq, if◌then◌else◌}
use Rattle.gc_splice.specs.declared.splice.Spliced.{Spliced}
use Rattle.gc_splice.specs.declared.splice.Spliced.TheVariants.{Done, Gone, LastEvent, Moved}
use Rattle.history_core.specs.Commands.{caller_of}
use Rattle.history_core.specs.Histories.{at}
use Rattle.ft_engine.specs.Entries.{Entry, IsHistory}
use Rattle.history_core.specs.Entries.{Exec, Scan, Splice}
use Rattle.history_core.specs.Pictures.{Pictured}
use Rattle.ft_index.specs.declared.snapshots.Snapshot.{Snapshot}
use Rattle.id_iters.specs.declared.list_name.ListName.{ListName}
use Rattle.turn_gate.specs.Known.{GateName, Known}
use Rattle.turn_gate.specs.Log.{NoneBy}
use Rattle.ft_machine.specs.Clean.{Marked}

-- the entries are a legal history from this number on, and FT.INFO tells in it just the live records of clean indexes
abbrev pub LegalFrom : ℕ → List Entry → Type 0
LegalFrom first entries = (after : Marked) × IsHistory first entries after

-- a pass of a server, and what it has seen is legal from the server's first number on
abbrev pub IsOf : GateName → Known Entry → Type 0
IsOf server pass = (pass.gate ≡ server) × LegalFrom server.first pass.seen

-- A turn of one entry: behind what the pass had seen come entries of others, of which there are none where it is alone, and
-- then this one.
pub record AddsEntry (pass pass' : Known Entry) (entry : Entry) : Type 0 where
  pub others : List Entry
  pub none_own : NoneBy caller_of pass.caller others
  pub none : pass.alone ≡ true → others ≡ []
  pub seen : pass'.seen ≡ (pass.seen ++ others) ++ entry ∷ []

-- The same of a command, as the pass's own.
abbrev pub Adds : Known Entry → Known Entry → ℕ → List (List ℕ) → List ℕ → Type 0
Adds pass pass' moment words reply = AddsEntry pass pass' (Exec pass.caller moment words reply)

-- whether an entry is a scan of this caller
abbrev pub is_scan : ℕ → Entry → Bool
is_scan caller (Exec other moment words reply) = false
is_scan caller (Scan other index result) = nat_eq caller other
is_scan caller (Splice other scan name answer) = false

-- the place of this caller's last scan among entries that begin at a place, and another place where there is none
abbrev pub last_scan_from : ℕ → ℕ → ℕ → List Entry → ℕ
last_scan_from caller best place [] = best
last_scan_from caller best place (entry ∷ entries) = last_scan_from caller (if is_scan caller entry then place else best) (suc place) entries

-- the place of this caller's last scan
abbrev pub last_scan : ℕ → List Entry → ℕ
last_scan caller entries = last_scan_from caller 0 0 entries

-- the last scan that a pass has an entry of took this snapshot
abbrev pub TookLast : Known Entry → Snapshot → Type 0
TookLast pass snapshot = Pictured pass.seen (last_scan pass.caller pass.seen) snapshot

-- One of the entries is the splice of the list of a name as the scan at a place pictured it, and it was an event.
pub record WasSpliced (entries : List Entry) (scan : ℕ) (name : ListName) : Type 0 where
  pub place : ℕ
  pub caller : ℕ
  pub answer : Spliced
  pub is : at entries place ≡ Some (Splice caller scan name answer)
  pub event : answer ≢ LastEvent

-- a splice that changed no list
abbrev pub ChangesNothing : Spliced → Type 0
ChangesNothing (Done removed tail_kept) = ⊥
ChangesNothing (Moved seen now) = Unit {0}
ChangesNothing Gone = Unit {0}
ChangesNothing LastEvent = Unit {0}
