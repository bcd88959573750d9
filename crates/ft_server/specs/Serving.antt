-- Serving under way: what was read, answered and written so far, and what a step of it leads to. No public clause cites this file.
use Rattle.std.specs.Prelude.{◌≡◌, ◌≤◌, ℕ, List, ◌++◌, length, true, false, Result, Ok, Err}
use Rattle.std.specs.declared.option.Option.{Option}
use Rattle.std.specs.Io.KnownBytes.{Appends, Consumes}
use Rattle.ft_base.specs.Words.{is_quit}
use Rattle.fs_ports.specs.Causes.{Rose, WritesFront}
use Rattle.ft_engine.specs.Entries.{Entry}
use Rattle.turn_gate.specs.Known.{Known}
use Rattle.resp_wire.specs.Decoding.{Decoding, fed}
use Rattle.resp_wire.specs.Stream.{Command, Stream, ended, stream_of}
use Rattle.resp_wire.specs.declared.fault.Stop.TheVariants.{More}
use Rattle.resp_wire.specs.declared.fault.WireFault.{WireFault}
use Rattle.tx_session.specs.Table.{Session, idle}
use Rattle.ft_server.specs.Callers.{Called}
use Rattle.ft_server.specs.Ends.{Ends}
use Rattle.ft_server.specs.FaultText.{fault_text}
use Rattle.ft_server.specs.Items.{Item, texts_of}
use Rattle.ft_server.specs.Session.{Outside, quits}
use Rattle.ft_server.specs.Talk.{Talks}
use Rattle.ft_server.specs.declared.connection.End.{End}
use Rattle.ft_server.specs.declared.connection.End.TheVariants as end

-- a stream whose first commands were taken
abbrev pub behind : List Command → Stream → Stream
behind taken stream = record stream { commands = taken ++ stream.commands }

-- What was served so far as the caller of a pass, with what the decoder holds, where the session is and what the pass has seen
-- by then: each command that was taken became an item, and the text of each was written.
pub record Going (held : Decoding) (session : Session) (pass later : Known Entry) (before now : Outside) : Type 0 where
  pub input : List ℕ
  pub commands : List Command
  pub items : List Item
  pub caller : later.caller ≡ pass.caller
  pub alone : later.alone ≡ pass.alone
  pub called : Called pass later items before.given now.given
  pub read : Consumes before.left now.left input
  pub split : stream_of input ≡ behind commands (stream_of held.left)
  pub talks : Talks idle commands items session
  pub no_quit : quits commands ≡ false
  pub fed_is : fed held ≡ length input
  pub sent : Appends before.written now.written (texts_of items)
  pub reads : before.read_faults ≤ now.read_faults
  pub writes : before.write_faults ≤ now.write_faults

-- A step goes on, with how many bytes it read; or the connection ends.
abbrev pub LeadsOn : Result ℕ End → Decoding → Session → Known Entry → Known Entry → Outside → Outside → Type 0
LeadsOn (Ok count) held session pass later before now = Going held session pass later before now
LeadsOn (Err how) held session pass later before now = Ends (Called pass later) how before now

-- A step leads from all that may have been served before on, or to an end: from what was held, seen and told to the same behind it.
abbrev pub Leads : Decoding → Decoding → Session → Session → Known Entry → Known Entry → Outside → Outside → Result ℕ End → Type 0
Leads held held' session session' pass pass' now now' went = (first : Known Entry) (before : Outside)
    → Going held session first pass before now → LeadsOn went held' session' first pass' before now'

-- No command is whole in what the decoder holds, and it has no fault: more is waited for.
pub record HoldsNoCommand (held : Decoding) : Type 0 where
  pub left : List ℕ
  pub waits : stream_of held.left ≡ ended More left

-- What a command is answered was written: whole, and that of QUIT ends the connection; or a front of it.
abbrev pub Sent : Result ℕ End → List (List ℕ) → List ℕ → Option (List ℕ) → Option (List ℕ) → ℕ → ℕ → Type 0
Sent (Ok count) words reply written written' faults faults' = (count ≡ 0) × (is_quit words ≡ false) × Appends written written' reply
Sent (Err end.Quit) words reply written written' faults faults' = (is_quit words ≡ true) × Appends written written' reply
Sent (Err end.WriteFault) words reply written written' faults faults' = WritesFront written written' reply × Rose faults faults'
Sent (Err _) words reply written written' faults faults' = ⊥

-- The text of a fault was written: whole, or a front of it.
abbrev pub Refused : End → ℕ → WireFault → Option (List ℕ) → Option (List ℕ) → ℕ → ℕ → Type 0
Refused (end.Protocol at' kind') at kind written written' faults faults' = (at' ≡ at) × (kind' ≡ kind) × Appends written written' (fault_text kind)
Refused end.WriteFault at kind written written' faults faults' = WritesFront written written' (fault_text kind) × Rose faults faults'
Refused _ at kind written written' faults faults' = ⊥
