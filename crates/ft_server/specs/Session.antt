-- What is promised of one connection: what was written is the replies to the commands read.
use Rattle.std.specs.Prelude.{◌≡◌, ℕ, ◌<◌, ◌^◌, List, [], ◌∷◌, ◌++◌, length, Bool, false, None}
use Rattle.std.specs.declared.option.Option.{Option}
use Rattle.std.specs.Io.KnownBytes.{Appends, Consumes}
use Rattle.std.specs.List.{list_any}
use Rattle.ft_base.specs.Words.{is_quit}
use Rattle.fs_ports.specs.declared.clock.Clock as Clock
use Rattle.fs_ports.specs.declared.link.Link as Link
use Rattle.resp_wire.specs.Stream.{Command, stream_of, fault_of, due}
use Rattle.tx_session.specs.Table.{Session, idle}
use Rattle.ft_server.specs.Items.{Item, text_of, texts_of}
use Rattle.ft_server.specs.Talk.{Talks}

-- whether a QUIT is among the commands
abbrev pub quits : List Command → Bool
quits commands = list_any is_quit commands

-- These bytes leave the connection open: no QUIT is among their commands, and they have no fault of the wire.
pub record IsOpen (input : List ℕ) : Type 0 where
  pub no_quit : quits (stream_of input).commands ≡ false
  pub no_fault : fault_of input ≡ None

-- They leave it open, and more may be read.
pub record WantsMore (input : List ℕ) : Type 0 where
  pub is_open : IsOpen input
  pub few : length input < 2 ^ 40

-- What a link and a clock tell at one moment.
pub record Outside : Type 0 where
  pub left : Option (List ℕ)
  pub written : Option (List ℕ)
  pub read_faults : ℕ
  pub write_faults : ℕ
  pub given : Option (List ℕ)

-- what these tell now
abbrev pub told : {L C : Type 0} → Link.Ghosts L → Clock.Ghosts C → L → C → Outside
told port watch link clock = record {
  left = port.left link;
  written = port.written link;
  read_faults = port.read_faults link;
  write_faults = port.write_faults link;
  given = watch.given clock;
}

-- the first bytes of a piece, but not all of it
pub record IsCut (front piece : List ℕ) : Type 0 where
  pub back : List ℕ
  pub whole : piece ≡ front ++ back
  pub proper : 0 < length back

-- `A` says how items came about, between what the clock had given before and what it has given since.
module _ (A : List Item → Option (List ℕ) → Option (List ℕ) → Type 0) where
  -- These bytes were read, and the commands that are due but for these last ones were taken. What was written is the texts of
  -- what they became, and this text behind them.
  pub record Served (input : List ℕ) (others : List Command) (text : List ℕ) (before after : Outside) : Type 0 where
    pub commands : List Command
    pub items : List Item
    pub session : Session
    pub read : Consumes before.left after.left input
    pub due_are : due input ≡ commands ++ others
    pub talks : Talks idle commands items session
    pub answered : A items before.given after.given
    pub written : Appends before.written after.written (texts_of items ++ text)

  -- More may be read: what was read leaves the connection open, and each command that it spells whole was taken, and what it
  -- is answered written.
  pub record AllAnswered (before after : Outside) : Type 0 where
    pub input : List ℕ
    pub wants : WantsMore input
    pub served : Served input [] [] before after

  -- Of the text of the last item only a front was written, and all before it whole.
  pub record ReplyCut (input : List ℕ) (before after : Outside) : Type 0 where
    pub commands : List Command
    pub items : List Item
    pub last : Item
    pub session : Session
    pub others : List Command
    pub front : List ℕ
    pub read : Consumes before.left after.left input
    pub due_are : due input ≡ commands ++ others
    pub talks : Talks idle commands (items ++ last ∷ []) session
    pub answered : A (items ++ last ∷ []) before.given after.given
    pub cut : IsCut front (text_of last)
    pub written : Appends before.written after.written (texts_of items ++ front)
