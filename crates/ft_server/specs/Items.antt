-- What the commands of a connection become: items, each with the moment that the clock gave for it.
use Rattle.std.specs.Prelude.{◌≡◌, ℕ, List, [], ◌∷◌, ◌++◌, length, map}
use Rattle.std.specs.Fmt.{decimal}
use Rattle.ft_base.specs.Reply.{joined, line}
use Rattle.history_core.specs.Commands.{Said, caller_of, commands_of}
use Rattle.ft_engine.specs.Entries.{Entry}
use Rattle.resp_wire.specs.Stream.{Command}
use Rattle.turn_gate.specs.Log.{NoneBy}

-- What became of a command.
pub data Item : Type 0 where
  -- this text was told, and nothing executed
  Told : (moment : ℕ) → (text : List ℕ) → Item
  -- it was executed by itself
  One : (said : Said) → Item
  -- it was EXEC, and these were executed side by side, each with its reply
  Block : (moment : ℕ) → (commands : List Command) → (replies : List (List ℕ)) → Item

-- the moment of an item: that of its command
abbrev pub moment_of : Item → ℕ
moment_of (Told moment text) = moment
moment_of (One said) = said.moment
moment_of (Block moment commands replies) = moment

-- What commands left that were executed at one moment: each its words and its reply.
abbrev pub said_at : ℕ → List Command → List (List ℕ) → List Said
said_at moment [] replies = []
said_at moment (words ∷ commands) [] = []
said_at moment (words ∷ commands) (reply ∷ replies) = record { moment = moment; words = words; reply = reply } ∷ said_at moment commands replies

-- the commands that were executed for it
abbrev pub said_of : Item → List Said
said_of (Told moment text) = []
said_of (One said) = said ∷ []
said_of (Block moment commands replies) = said_at moment commands replies

-- the reply to a block (RESP2): an array of the replies of its commands
abbrev pub block_text : List (List ℕ) → List ℕ
block_text replies = line 42 (decimal (length replies)) ++ joined replies

-- what is written for it
abbrev pub text_of : Item → List ℕ
text_of (Told moment text) = text
text_of (One said) = said.reply
text_of (Block moment commands replies) = block_text replies

-- the commands that were executed for items, in order
abbrev pub said_in : List Item → List Said
said_in [] = []
said_in (item ∷ items) = said_of item ++ said_in items

abbrev pub moments_of : List Item → List ℕ
moments_of items = map moment_of items

-- what is written for items, one after another
abbrev pub texts_of : List Item → List ℕ
texts_of items = joined (map text_of items)

-- The entries of a caller's items among those of others: nothing stands between the entries of one item, and it has no other.
abbrev pub Woven : ℕ → List Item → List Entry → Type 0
Woven caller [] entries = NoneBy caller_of caller entries
Woven caller (item ∷ items) entries =
    (others : List Entry) × (rest : List Entry)
    × NoneBy caller_of caller others × (entries ≡ others ++ (commands_of caller (said_of item) ++ rest)) × Woven caller items rest
