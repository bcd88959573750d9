-- How the commands of a connection become items: by the table of transactions, from one command to the next.
use Rattle.std.specs.Prelude.{◌≡◌, ◌⊎◌, ℕ, List, [], ◌∷◌, codes, length, slice_index_or}
use Rattle.ft_base.specs.Memory.{want_of_memory}
use Rattle.ft_base.specs.Reply.{line}
use Rattle.cmd_parse.specs.Fits.{name_fit}
use Rattle.cmd_parse.specs.Refusals.{refusal}
use Rattle.cmd_parse.specs.declared.command.CmdFault.TheVariants as fault
use Rattle.resp_wire.specs.Stream.{Command}
use Rattle.tx_session.specs.Table.{Fate, Row, Session, broken, line_of}
use Rattle.tx_session.specs.Table as fate
use Rattle.tx_session.specs.declared.kinds.Phase.TheVariants.{Open}
use Rattle.tx_session.specs.declared.kinds.TxText.{TxText}
use Rattle.tx_session.specs.declared.kinds.TxText.TheVariants.{Done, Queued, Nested, NoExec, NoDiscard, Abort, Nothing, Unknown, Arity}
use Rattle.ft_server.specs.Items.{Item, Told, One, Block}

-- what a session says to a command of this name (Redis)
abbrev pub said_text : List ℕ → TxText → List ℕ
said_text name Done = line 43 (codes "OK")
said_text name Queued = line 43 (codes "QUEUED")
said_text name Nested = line 45 (codes "ERR MULTI calls can not be nested")
said_text name NoExec = line 45 (codes "ERR EXEC without MULTI")
said_text name NoDiscard = line 45 (codes "ERR DISCARD without MULTI")
said_text name Abort = line 45 (codes "EXECABORT Transaction discarded because of previous errors.")
said_text name Nothing = line 42 (codes "0")
said_text name Unknown = line 45 (refusal name fault.Unknown)
said_text name Arity = line 45 (refusal name fault.Arity)

abbrev pub out_of_memory : List ℕ
out_of_memory = line 45 want_of_memory

-- the first word of a command
abbrev pub name : Command → List ℕ
name words = slice_index_or words 0 []

-- A command becomes an item by what the table says of it. Where there is no memory for the replies of a block, that is told.
abbrev pub Becomes : Command → Fate → Item → Type 0
Becomes words fate.One (One said) = said.words ≡ words
Becomes words (fate.Say text) (Told moment told) = told ≡ said_text (name words) text
Becomes words (fate.Block queued) (Block moment commands replies) = (commands ≡ queued) × (length replies ≡ length commands)
Becomes words (fate.Block queued) (Told moment told) = told ≡ out_of_memory
Becomes words _ _ = ⊥

-- There is no memory to keep a command until EXEC: that is told.
abbrev pub IsNotKept : Session → Row → Item → Session → Type 0
IsNotKept old line (Told moment told) new = (old.phase ≡ Open) × (line.fate ≡ fate.Say Queued) × (told ≡ out_of_memory) × (new ≡ broken)
IsNotKept old line _ new = ⊥

-- the line of the table for a command; whether its words fit depends on no number of an event
abbrev pub line_at : Session → Command → Row
line_at old words = line_of words (name_fit 0 words) old

-- A session takes a command.
abbrev pub Turns : Session → Command → Item → Session → Type 0
Turns old words item new =
    (Becomes words (line_at old words).fate item × (new ≡ (line_at old words).after)) ⊎ IsNotKept old (line_at old words) item new

-- A session takes commands, one after another: one item each.
abbrev pub Talks : Session → List Command → List Item → Session → Type 0
Talks old [] [] new = new ≡ old
Talks old [] (item ∷ items) new = ⊥
Talks old (words ∷ commands) [] new = ⊥
Talks old (words ∷ commands) (item ∷ items) new = (mid : Session) × Turns old words item mid × Talks mid commands items new
