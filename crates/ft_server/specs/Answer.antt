-- One command taken: what it became, at a moment that the clock gave for it, and what was written of that.
use Rattle.std.specs.Prelude.{◌≡◌, ◌++◌, ℕ, List, [], ◌∷◌, true, Result, Ok, Err}
use Rattle.std.specs.declared.option.Option.{Option}
use Rattle.std.specs.Io.KnownBytes.{Appends}
use Rattle.fs_ports.specs.Causes.{Rose, WritesFront}
use Rattle.fs_ports.specs.Moments.{Gives}
use Rattle.history_core.specs.Commands.{caller_of, commands_of}
use Rattle.ft_engine.specs.Entries.{Entry}
use Rattle.turn_gate.specs.Known.{Known}
use Rattle.turn_gate.specs.Log.{NoneBy}
use Rattle.tx_session.specs.Table.{Command, Session}
use Rattle.tx_session.specs.Table as fate
use Rattle.ft_server.specs.Items.{Item, moment_of, said_of, text_of}
use Rattle.ft_server.specs.Serving.{Sent}
use Rattle.ft_server.specs.Talk.{Becomes, Turns}
use Rattle.ft_server.specs.declared.connection.End.{End}
use Rattle.ft_server.specs.declared.connection.End.TheVariants as end

-- What an item adds: behind what the pass had seen come entries of others, of which there are none where it is alone, and then
-- those of the item, side by side and last.
pub record AddsItem (pass pass' : Known Entry) (item : Item) : Type 0 where
  pub others : List Entry
  pub none_own : NoneBy caller_of pass.caller others
  pub none : pass.alone ≡ true → others ≡ []
  pub seen : pass'.seen ≡ (pass.seen ++ others) ++ commands_of pass.caller (said_of item)

pub record Answer (words : Command) (old new : Session) (pass pass' : Known Entry) (given given' : Option (List ℕ)) (went : Result ℕ End)
    (written written' : Option (List ℕ)) (faults faults' : ℕ) : Type 0 where
  pub item : Item
  pub turns : Turns old words item new
  pub adds : AddsItem pass pass' item
  pub asked : Gives given given' (moment_of item ∷ [])
  pub sent : Sent went words (text_of item) written written' faults faults'

-- ---- its parts

-- how serving goes on behind a text that was written or not
abbrev pub went_of : {T E : Type 0} → Result T E → Result ℕ End
went_of (Ok _) = Ok 0
went_of (Err _) = Err end.WriteFault

-- A text was written: whole, or a front of it.
abbrev pub Writes : Result ℕ End → List ℕ → Option (List ℕ) → Option (List ℕ) → ℕ → ℕ → Type 0
Writes (Ok count) text written written' faults faults' = (count ≡ 0) × Appends written written' text
Writes (Err end.WriteFault) text written written' faults faults' = WritesFront written written' text × Rose faults faults'
Writes (Err _) text written written' faults faults' = ⊥

-- What becomes of EXEC where these commands waited, at this moment: they are executed, or there is no memory for their replies.
pub record BlockAnswer (waited : List Command) (moment : ℕ) (pass pass' : Known Entry) (went : Result ℕ End)
    (written written' : Option (List ℕ)) (faults faults' : ℕ) : Type 0 where
  pub item : Item
  pub becomes : Becomes [] (fate.Block waited) item
  pub moment_is : moment_of item ≡ moment
  pub adds : AddsItem pass pass' item
  pub writes : Writes went (text_of item) written written' faults faults'
