-- One step of the machine: a command at an event's number and a moment gives a reply and the next state.
use Rattle.std.specs.Prelude.{◌≡◌, ◌<◌, ◌≤◌, ◌⊎◌, ℕ, List, [], ◌+◌, ◌^◌, min, slice_index_or, Result, Ok, Err, IsTrue, codes}
use Rattle.cmd_parse.specs.Asked.{Asked, Plain, CreateIndex, AlterIndex, Search, Aggregate, CursorRead, CursorDel}
use Rattle.cmd_parse.specs.Read.{read, takes_memory}
use Rattle.cmd_parse.specs.Refusals.{refusal}
use Rattle.cmd_parse.specs.declared.command.CmdFault.{CmdFault}
use Rattle.ft_base.specs.Memory.{out_of_memory}
use Rattle.ft_base.specs.Reply.{spelling}
use Rattle.ft_base.specs.declared.reply.Reply.{Reply}
use Rattle.ft_base.specs.declared.reply.Reply.TheVariants.{Fault}
use Rattle.ft_machine.specs.Cursors.{cursor_deleted, cursor_read}
use Rattle.ft_machine.specs.Definitions.{index_of}
use Rattle.ft_machine.specs.Indexes.{altered, created}
use Rattle.ft_machine.specs.Machine.{Outcome, State, answered, at_moment, just, wanting}
use Rattle.ft_machine.specs.Opening.{aggregated}
use Rattle.ft_machine.specs.PlainCommands.{PlainMayWant, plain}
use Rattle.ft_machine.specs.Searching.{searched}

-- What a command gives that asks this.
abbrev pub given : Asked → ℕ → State → Outcome → Type 0
given (Plain verb args) number state = plain verb args number state
given (CreateIndex index) number state = just (created index state)
given (AlterIndex index fields) number state = just (altered (index_of state.definitions index) fields state)
given (Search what) number state = searched (index_of state.definitions what.index) what state
given (Aggregate what) number state = aggregated (index_of state.definitions what.index) what number state
given (CursorRead index id count) number state = just (cursor_read (index_of state.definitions index) id count state)
given (CursorDel index id) number state = just (cursor_deleted (index_of state.definitions index) id state)

-- Whether a command may be answered that memory ran out.
abbrev pub MayWant : Asked → Type 0
MayWant (Plain verb args) = PlainMayWant verb args
MayWant (CursorDel index id) = ⊥
MayWant _ = Unit {0}

-- What a command may give: what it asks; or memory ran out.
abbrev pub outcomes : Asked → ℕ → State → Outcome → Type 0
outcomes asks number state outcome = given asks number state outcome ⊎ (MayWant asks × (outcome ≡ wanting state))

-- What was read may give: what it asks, or the refusal of the words' first fault.
abbrev pub read_gives : List ℕ → Result Asked CmdFault → ℕ → State → Outcome → Type 0
read_gives name (Ok asks) number state = outcomes asks number state
read_gives name (Err fault) number state = just (answered (Fault (refusal name fault)) state)

-- What words may give, by what they ask; or memory ran out for the words of a schema or of parameters. The event's
-- number is the serial of an index that is created.
abbrev pub words_give : List (List ℕ) → ℕ → State → Outcome → Type 0
words_give words number state outcome =
    read_gives (slice_index_or words 0 []) (read number words) number state outcome
    ⊎ (IsTrue (takes_memory words) × (outcome ≡ wanting state))

-- An outcome that may be is written, and leads to the next state.
pub record Gives (May : Outcome → Type 0) (written : List ℕ) (new : State) : Type 0 where
  pub outcome : Outcome
  pub may : May outcome
  pub reply : written ≡ spelling outcome.reply
  pub after : new ≡ outcome.after

-- What was asked was done, or memory ran out.
abbrev pub Does : Asked → ℕ → State → List ℕ → State → Type 0
Does asks number old written new = Gives (outcomes asks number old) written new

-- What was made is written, or memory ran out.
abbrev pub Told : {E : Type 0} → Result Reply E → List ℕ → Type 0
Told (Ok reply) written = (written ≡ spelling reply) ⊎ (written ≡ spelling out_of_memory)
Told (Err e) written = written ≡ spelling out_of_memory

-- the last number that an event can have
abbrev pub last_number : ℕ
last_number = 2 ^ 62

-- the number of the event behind this one
abbrev pub next_number : ℕ → ℕ
next_number number = min (number + 1) last_number

-- the text for every command at the last number
abbrev pub last_event : List ℕ
last_event = codes "ERR last event reached"

-- An event is made at a moment, which counts first, whatever the reply. At the last number every command is refused, and
-- nothing changes.
abbrev pub At : ℕ → ℕ → (State → Outcome → Type 0) → State → List ℕ → State → Type 0
At number moment May old written new =
    ((number < last_number) × Gives (May (at_moment moment old)) written new)
    ⊎ ((last_number ≤ number) × (written ≡ spelling (Fault last_event)) × (new ≡ old))

-- One command.
abbrev pub Answers : List (List ℕ) → ℕ → ℕ → State → List ℕ → State → Type 0
Answers words number moment = At number moment (words_give words number)
