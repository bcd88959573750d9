-- What a connection is whose commands have none of the three names of transactions (docs/COMMANDS.md): each command is executed by
-- itself, and its own entries are all of them, in order.
use Rattle.std.specs.Prelude.{◌≡◌, ℕ, List, Bool, false, map}
use Rattle.std.specs.List.{list_any}
use Rattle.cmd_parse.specs.Fits.{is_of_session}
use Rattle.ft_engine.specs.Entries.{Entry}
use Rattle.history_core.specs.Commands.{Said, commands_of, own, replies_of, words_of}
use Rattle.history_core.specs.Commands as history
use Rattle.resp_wire.specs.Stream.{Command}
use Rattle.tx_session.specs.Table.{Session, idle}
use Rattle.ft_server.specs.Items.{Item, One, Woven, moments_of, said_in, texts_of}
use Rattle.ft_server.specs.Talk.{Talks, name}

-- whether a command is MULTI, EXEC or DISCARD, in any case
abbrev pub names_transaction : List Command → Bool
names_transaction commands = list_any (λ (words : Command). is_of_session (name words)) commands

-- The items are these commands as they were executed, one each, with their moments and replies; nothing else was written.
pub record AreEach (commands : List Command) (items : List Item) : Type 0 where
  pub said : List Said
  pub each : items ≡ map One said
  pub words : words_of said ≡ commands
  pub moments : moments_of items ≡ history.moments_of said
  pub texts : texts_of items ≡ replies_of said
  pub own_are : (caller : ℕ) (entries : List Entry) → Woven caller items entries → own caller entries ≡ commands_of caller said

-- Commands without these names leave a session idle, and become one item each.
abbrev pub PlainStreams : Type 0
PlainStreams = (commands : List Command) (items : List Item) (session : Session) → names_transaction commands ≡ false → Talks idle commands items session
    → (session ≡ idle) × AreEach commands items

-- What of a log is a caller's own is what was executed for its items, in order.
abbrev pub OwnEntries : Type 0
OwnEntries = (caller : ℕ) (items : List Item) (entries : List Entry) → Woven caller items entries → own caller entries ≡ commands_of caller (said_in items)
