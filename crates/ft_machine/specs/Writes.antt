-- What the commands that write hashes give.
use Rattle.std.specs.Prelude.{ℕ, ℤ, pos, List, [], ◌∷◌, ◌-◌, ◌+ℤ◌, length, drop, filter, map, not, Option, Some, None, Bool, true, false, nat_lt, if◌then◌else◌, codes}
use Rattle.std.specs.Fmt.{signed_decimal}
use Rattle.std.specs.List.{list_any}
use Rattle.std.specs.Str.{bytes_eq}
use Rattle.ft_base.specs.Hash.{Hash, set_field}
use Rattle.ft_base.specs.Number.{int_of, is_i64}
use Rattle.ft_base.specs.Space.{erase, write}
use Rattle.ft_base.specs.Docs.{Doc}
use Rattle.ft_base.specs.declared.reply.Reply.TheVariants.{Line, Fault, Number}
use Rattle.ft_machine.specs.Definitions.{tried, without_keys}
use Rattle.ft_base.specs.Words.{first, second}
use Rattle.ft_machine.specs.Machine.{Outcome, State, answered, hash_of}

-- a hash with pairs of fields and values set from the left
abbrev pub set_pairs : Hash → List (List ℕ) → Hash
set_pairs hash [] = hash
set_pairs hash (field ∷ []) = hash
set_pairs hash (field ∷ value ∷ pairs) = set_pairs (set_field hash field value) pairs

-- The state once a key has this hash: its old document is gone, and each index has tried the new one.
abbrev pub put : List ℕ → Hash → ℕ → State → State
put key hash number state = record state {
  space = write state.space key hash number;
  definitions = map (tried (record { id = number; key = key; hash = hash })) state.definitions;
}

-- HSET: the number of new fields
abbrev pub hset : List (List ℕ) → ℕ → State → Outcome
hset args number state = let old = hash_of state (first args) in let new = set_pairs old (drop 1 args) in record {
  reply = Number (pos (length new - length old));
  after = put (first args) new number state;
}

-- HSETNX, where the field is there or not
abbrev pub hset_unless : Bool → List (List ℕ) → ℕ → State → Outcome
hset_unless true args number state = answered (Number (pos 0)) state
hset_unless false args number state = hset args number state

-- a hash without these fields
abbrev pub without_fields : Hash → List (List ℕ) → Hash
without_fields hash fields = filter (λ (field : List ℕ × List ℕ). not (list_any (bytes_eq field.0) fields)) hash

-- The state once a key has this hash left, where it lost fields. One that has none left is gone.
abbrev pub hash_left : Bool → Hash → List ℕ → ℕ → State → State
hash_left false left key number state = state
hash_left true [] key number state = record state { space = erase state.space key }
hash_left true (field ∷ fields) key number state = put key (field ∷ fields) number state

-- the state without these fields of a key's hash
abbrev pub fields_gone : List ℕ → List (List ℕ) → ℕ → State → State
fields_gone key fields number state =
    let old = hash_of state key in let left = without_fields old fields in
    hash_left (nat_lt (length left) (length old)) left key number state

-- HDEL: the number of fields that are gone
abbrev pub hdel : List (List ℕ) → ℕ → State → Outcome
hdel args number state = let old = hash_of state (first args) in record {
  reply = Number (pos (length old - length (without_fields old (drop 1 args))));
  after = fields_gone (first args) (drop 1 args) number state;
}

-- the number that a field's value is, where it is one; a field that is not there counts as 0
abbrev pub number_in : Option (List ℕ) → Option ℤ
number_in None = Some (pos 0)
number_in (Some value) = int_of value

-- HINCRBY of a field with this number by this increment, which is judged first: the sum, where it has 64 bits
abbrev pub hincrby : Option ℤ → Option ℤ → List (List ℕ) → ℕ → State → Outcome
hincrby old None args number state = answered (Fault (codes "ERR value is not an integer or out of range")) state
hincrby None (Some by) args number state = answered (Fault (codes "ERR hash value is not an integer")) state
hincrby (Some old) (Some by) args number state =
    if is_i64 (old +ℤ by) then record {
      reply = Number (old +ℤ by);
      after = put (first args) (set_field (hash_of state (first args)) (second args) (signed_decimal (old +ℤ by))) number state;
    } else answered (Fault (codes "ERR increment or decrement would overflow")) state

-- RENAME, from a key with this document or none: the other key gets the hash. Where both are one key, nothing is written.
abbrev pub rename : Option Doc → List ℕ → List ℕ → ℕ → State → Outcome
rename None from to number state = answered (Fault (codes "ERR no such key")) state
rename (Some doc) from to number state =
    if bytes_eq from to then answered (Line (codes "OK")) state
    else (let moved = put to doc.hash number state in record { reply = Line (codes "OK"); after = record moved { space = erase moved.space from } })

-- DEL: the number of keys that are gone
abbrev pub del : List (List ℕ) → State → Outcome
del keys state = let left = without_keys state.space keys in record {
  reply = Number (pos (length state.space - length left));
  after = record state { space = left };
}
