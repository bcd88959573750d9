-- What the plain commands give: those of the connection, of hashes and keys, and those of indexes whose words are all that they ask.
use Rattle.std.specs.Prelude.{◌<◌, ℕ, pos, List, [], ◌∷◌, length, drop, map, is_some, codes}
use Rattle.cmd_parse.specs.declared.command.Verb.{Verb}
use Rattle.cmd_parse.specs.declared.command.Verb.TheVariants.{Ping, Echo, Select, Quit, Hset, Hsetnx, Hget, Hmget, Hgetall, Hdel, Hlen, Hexists, Hincrby, Hkeys, Hvals, Del, Exists, TypeOf, Dbsize, Rename, Flushall, DropIndex, ListIndexes, Info, TagVals, Debug}
use Rattle.ft_base.specs.Hash.{get_field, in_turn}
use Rattle.ft_base.specs.Number.{int_of}
use Rattle.ft_base.specs.Space.{doc_of}
use Rattle.ft_base.specs.declared.reply.Reply.TheVariants.{Line, Number, Bulk, Array}
use Rattle.ft_base.specs.Words.{first, second, third}
use Rattle.ft_machine.specs.Reads.{kind_of, names, one_if, present, value_reply, values}
use Rattle.ft_machine.specs.Definitions.{index_of}
use Rattle.ft_machine.specs.Indexes.{collected, dropped, listed, tag_vals}
use Rattle.ft_machine.specs.Info.{informed}
use Rattle.ft_machine.specs.Machine.{Outcome, State, answered, hash_of, just}
use Rattle.ft_machine.specs.Writes.{del, hdel, hincrby, hset, hset_unless, number_in, rename}

-- What a plain command may give: one outcome, but for the number of records that FT.INFO tells.
abbrev pub plain : Verb → List (List ℕ) → ℕ → State → Outcome → Type 0
plain Ping [] number state = just (answered (Line (codes "PONG")) state)
plain Ping (message ∷ _) number state = just (answered (Bulk message) state)
plain Quit args number state = just (answered (Line (codes "OK")) state)
plain Echo args number state = just (answered (Bulk (first args)) state)
plain Select args number state = just (answered (Line (codes "OK")) state)
plain Hget args number state = just (answered (value_reply (get_field (hash_of state (first args)) (second args))) state)
plain Hmget args number state =
    just (answered (Array (map (λ field. value_reply (get_field (hash_of state (first args)) field)) (drop 1 args))) state)
plain Hgetall args number state = just (answered (Array (in_turn (hash_of state (first args)))) state)
plain Hkeys args number state = just (answered (Array (names (hash_of state (first args)))) state)
plain Hvals args number state = just (answered (Array (values (hash_of state (first args)))) state)
plain Hlen args number state = just (answered (Number (pos (length (hash_of state (first args))))) state)
plain Hexists args number state = just (answered (one_if (is_some (get_field (hash_of state (first args)) (second args)))) state)
plain Exists args number state = just (answered (Number (pos (present state.space args))) state)
plain TypeOf args number state = just (answered (Line (kind_of (doc_of state.space (first args)))) state)
plain Dbsize args number state = just (answered (Number (pos (length state.space))) state)
plain Hset args number state = just (hset args number state)
plain Hsetnx args number state = just (hset_unless (is_some (get_field (hash_of state (first args)) (second args))) args number state)
plain Hdel args number state = just (hdel args number state)
plain Hincrby args number state =
    just (hincrby (number_in (get_field (hash_of state (first args)) (second args))) (int_of (third args)) args number state)
plain Rename args number state = just (rename (doc_of state.space (first args)) (first args) (second args) number state)
plain Del keys number state = just (del keys state)
plain DropIndex args number state = just (dropped (index_of state.definitions (first args)) (first args) (drop 1 args) state)
plain ListIndexes args number state = just (answered (listed state.definitions) state)
plain Info args number state = informed (index_of state.definitions (first args)) state
plain TagVals args number state = just (answered (tag_vals (index_of state.definitions (first args)) (second args) state.space) state)
plain Debug args number state = just (answered (collected (index_of state.definitions (second args))) state)
plain Flushall args number state = just (record { reply = Line (codes "OK"); after = record state { space = []; definitions = []; cursors = [] } })

-- how many keys DEL counts without memory
abbrev pub most_counted : ℕ
most_counted = 1024

-- Whether a plain command takes memory.
abbrev pub PlainMayWant : Verb → List (List ℕ) → Type 0
PlainMayWant Ping (message ∷ _) = Unit {0}
PlainMayWant Echo args = Unit {0}
PlainMayWant Hget args = Unit {0}
PlainMayWant Hmget args = Unit {0}
PlainMayWant Hgetall args = Unit {0}
PlainMayWant Hkeys args = Unit {0}
PlainMayWant Hvals args = Unit {0}
PlainMayWant Hset args = Unit {0}
PlainMayWant Hsetnx args = Unit {0}
PlainMayWant Hdel args = Unit {0}
PlainMayWant Hincrby args = Unit {0}
PlainMayWant Rename args = Unit {0}
PlainMayWant ListIndexes args = Unit {0}
PlainMayWant Info args = Unit {0}
PlainMayWant TagVals args = Unit {0}
PlainMayWant Debug args = Unit {0}
PlainMayWant Del keys = most_counted < length keys
PlainMayWant _ args = ⊥
