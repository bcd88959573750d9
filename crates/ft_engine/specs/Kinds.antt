-- The three kinds of plain commands that change nothing and ask nothing of an index.
use Rattle.cmd_parse.specs.declared.command.Verb.{Verb}
use Rattle.cmd_parse.specs.declared.command.Verb.TheVariants.{Ping, Echo, Select, Quit, Hget, Hmget, Hgetall, Hlen, Hexists, Hkeys, Hvals, Exists, TypeOf, Dbsize}

-- one of the connection, which reads nothing
abbrev pub IsConnection : Verb → Type 0
IsConnection Ping = Unit {0}
IsConnection Echo = Unit {0}
IsConnection Select = Unit {0}
IsConnection Quit = Unit {0}
IsConnection _ = ⊥

-- one that is answered by the names and values of fields
abbrev pub IsValue : Verb → Type 0
IsValue Hget = Unit {0}
IsValue Hmget = Unit {0}
IsValue Hgetall = Unit {0}
IsValue Hkeys = Unit {0}
IsValue Hvals = Unit {0}
IsValue _ = ⊥

-- one that is answered by a number, or by a type
abbrev pub IsCount : Verb → Type 0
IsCount Hlen = Unit {0}
IsCount Hexists = Unit {0}
IsCount Exists = Unit {0}
IsCount TypeOf = Unit {0}
IsCount Dbsize = Unit {0}
IsCount _ = ⊥
