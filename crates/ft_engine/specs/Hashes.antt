-- What the commands that write make of a key's hash.
use Rattle.std.specs.Prelude.{◌≡◌, ◌≤◌, ◌-◌, ℕ, ℤ, List, length}
use Rattle.std.specs.Fmt.{signed_decimal}
use Rattle.ft_base.specs.Hash.{Hash, set_field}
use Rattle.ft_base.specs.declared.limits.TheConstants.{MAX_WORD_BYTES}
use Rattle.ft_machine.specs.Machine.{State, hash_of}
use Rattle.ft_machine.specs.Writes.{fields_gone, set_pairs, without_fields}
use Rattle.indexed_store.specs.Changing.{changed}
use Rattle.indexed_store.specs.Holding.{Holding, state_of}
use Rattle.indexed_store.specs.Preparing.{IsPrepared}
use Rattle.indexed_store.specs.declared.change.Change.{Change}

-- the hash that is held of a key, without fields where the key is not there
abbrev pub hash_held : Holding → List ℕ → Hash
hash_held held key = hash_of (state_of held) key

-- the same with pairs of fields and values set from the left
abbrev pub hash_with : Holding → List ℕ → List (List ℕ) → Hash
hash_with held key pairs = set_pairs (hash_held held key) pairs

-- how many of these fields are new
abbrev pub fresh_fields : Holding → List ℕ → List (List ℕ) → ℕ
fresh_fields held key pairs = length (hash_with held key pairs) - length (hash_held held key)

-- a hash with a field set to a number
abbrev pub with_number : Hash → List ℕ → ℤ → Hash
with_number hash field number = set_field hash field (signed_decimal number)

-- A field is set to a number, which is no longer than a word may be.
pub record SetsNumber (field : List ℕ) (number : ℤ) (old new : Hash) : Type 0 where
  pub set : new ≡ with_number old field number
  pub short : length (signed_decimal number) ≤ MAX_WORD_BYTES

-- A change that takes fields out of a key's hash is ready in this event, and so many of the fields were there.
pub record TakesOut (key : List ℕ) (fields : List (List ℕ)) (old new : Holding) (made : Change × ℕ) : Type 0 where
  pub change : (state : State) → state.space ≡ old.space → changed made.0 new.waits new.opens state ≡ fields_gone key fields old.next state
  pub gone : made.1 ≡ length (hash_held old key) - length (without_fields (hash_held old key) fields)
  pub ready : IsPrepared made.0 old new
