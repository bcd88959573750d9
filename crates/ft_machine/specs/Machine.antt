-- The state of the machine: the plain hashes, and what else a reply may depend on.
use Rattle.std.specs.Prelude.{◌≡◌, ℕ, max, List, []}
use Rattle.cursor_book.specs.Cursors.{live}
use Rattle.cursor_book.specs.declared.cursor.Cursor.{Cursor}
use Rattle.ft_base.specs.Memory.{out_of_memory}
use Rattle.ft_base.specs.Hash.{Hash}
use Rattle.ft_base.specs.Space.{doc_of}
use Rattle.ft_base.specs.Docs.{Doc}
use Rattle.ft_base.specs.declared.reply.Reply.{Reply}
use Rattle.ft_machine.specs.Reads.{hash_in}
use Rattle.ft_machine.specs.Definitions.{Defined}

pub record State : Type 0 where
  -- the documents, in order of ids
  pub space : List Doc
  -- the definitions of the indexes, in order of creation, with their counts of failures
  pub definitions : List Defined
  -- the cursors that are open, in order of their ids
  pub cursors : List Cursor
  -- the latest moment that a command came with
  pub latest : ℕ

abbrev pub empty_state : State
empty_state = record { space = []; definitions = []; cursors = []; latest = 0 }

-- The state at an event's moment, before the event does anything. A moment that is earlier counts as the latest one. A
-- cursor that was not used for longer than it may is gone.
abbrev pub at_moment : ℕ → State → State
at_moment moment state =
    let now = max moment state.latest in record state { cursors = live now state.cursors; latest = now }

-- the hash of a key
abbrev pub hash_of : State → List ℕ → Hash
hash_of state key = hash_in (doc_of state.space key)

-- a reply, and the state after it
pub record Outcome : Type 0 where
  pub reply : Reply
  pub after : State

-- a reply that changes nothing
abbrev pub answered : Reply → State → Outcome
answered reply state = record { reply = reply; after = state }

-- the outcome out of memory
abbrev pub wanting : State → Outcome
wanting state = answered out_of_memory state

-- this outcome, and no other
abbrev pub just : Outcome → Outcome → Type 0
just made outcome = outcome ≡ made
