-- What each way to end says of what was read, answered and written.
use Rattle.std.specs.Prelude.{◌≡◌, ◌⊎◌, ◌<◌, ◌≤◌, ◌^◌, ℕ, List, [], length, IfSome, true, false, Some}
use Rattle.std.specs.declared.option.Option.{Option}
use Rattle.fs_ports.specs.Causes.{Rose}
use Rattle.resp_wire.specs.Stream.{NextIsLong, Command, FaultAt, stream_of, fault_of}
use Rattle.ft_server.specs.Callers.{Answered}
use Rattle.ft_server.specs.FaultText.{fault_text}
use Rattle.ft_server.specs.Items.{Item}
use Rattle.ft_server.specs.Session.{Outside, IsOpen, WantsMore, IsCut, Served, ReplyCut, quits}
use Rattle.ft_server.specs.declared.connection.End.{End}
use Rattle.ft_server.specs.declared.connection.End.TheVariants as end
use Rattle.ft_server.specs.declared.exit.Exit.{Exit}
use Rattle.ft_server.specs.declared.exit.Exit.TheVariants as exit

-- where the link tells what it has left, this is all of it
abbrev pub IsAll : Option (List ℕ) → List ℕ → Type 0
IsAll left input = IfSome left (λ all. input ≡ all)

-- the bytes end within a request, of which so many are there
abbrev pub EndsWith : List ℕ → ℕ → Type 0
EndsWith input left = length (stream_of input).rest ≡ left

-- the first fault of these bytes, and no QUIT comes before it
pub record IsFaulty (input : List ℕ) (fault : FaultAt) : Type 0 where
  pub no_quit : quits (stream_of input).commands ≡ false
  pub fault_is : fault_of input ≡ Some fault

-- why memory may run out: at the start; for a request of at least 64 KiB; or for a command of more than 1,024 words
abbrev pub MayLack : List ℕ → List Command → Type 0
MayLack input others =
    (input ≡ [])
    ⊎ (((others ≡ []) × WantsMore input × (65536 ≤ length (stream_of input).rest)) ⊎ NextIsLong others)

-- `A` says how items came about.
module _ (A : List Item → Option (List ℕ) → Option (List ℕ) → Type 0) where
  abbrev pub Ends : End → Outside → Outside → Type 0
  -- all that there was is whole requests
  Ends end.Closed before after = (input : List ℕ) × IsAll before.left input × WantsMore input × EndsWith input 0 × Served A input [] [] before after
  -- the last command that was taken is QUIT
  Ends end.Quit before after = (input : List ℕ) × (quits (stream_of input).commands ≡ true) × Served A input [] [] before after
  -- all that there was ends within a request
  Ends (end.CutShort left) before after = (input : List ℕ) × IsAll before.left input × WantsMore input × (0 < left) × EndsWith input left × Served A input [] [] before after
  -- the fault's text was written behind all else
  Ends (end.Protocol at kind) before after = (input : List ℕ) × IsFaulty input (record { at = at; kind = kind }) × Served A input [] (fault_text kind) before after
  -- a read failed
  Ends end.ReadFault before after = Rose before.read_faults after.read_faults × ((input : List ℕ) × WantsMore input × Served A input [] [] before after)
  -- a write failed: what the last command is answered is cut, or the text of a fault
  Ends end.WriteFault before after =
      Rose before.write_faults after.write_faults
      × ((input : List ℕ)
      × (ReplyCut A input before after
      ⊎ ((fault : FaultAt) × (front : List ℕ) × IsFaulty input fault × IsCut front (fault_text fault.kind) × Served A input [] front before after)))
  -- as many bytes were read as may be
  Ends end.ByteLimit before after = (input : List ℕ) × (length input ≡ 2 ^ 40) × IsOpen input × Served A input [] [] before after
  -- memory runs out
  Ends end.NoMemory before after = (input : List ℕ) × (others : List Command) × MayLack input others × Served A input others [] before after

-- how the program ends where its connection ends so
abbrev pub exit_of : End → Exit
exit_of end.Closed = exit.Done
exit_of end.Quit = exit.Done
exit_of (end.CutShort left) = exit.CutShort
exit_of (end.Protocol at kind) = exit.Protocol
exit_of end.ReadFault = exit.ReadFault
exit_of end.WriteFault = exit.WriteFault
exit_of end.ByteLimit = exit.ByteLimit
exit_of end.NoMemory = exit.NoMemory

-- What each way to end says of a run: with other words than a form has nothing was done. A run has no door and starts no
-- thread.
abbrev pub Ended : Exit → Outside → Outside → Type 0
Ended exit.Usage before after = after ≡ before
Ended exit.DoorFault before after = ⊥
Ended exit.NoThread before after = ⊥
Ended other before after = (ends : End) × (exit_of ends ≡ other) × Ends Answered ends before after
