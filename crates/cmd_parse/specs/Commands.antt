-- The commands that have a name here (Redis and RediSearch), and their lawful numbers of words.
use Rattle.std.specs.Prelude.{ℕ, List, [], ◌∷◌, Bool, ◌&&◌, ◌==◌, ◌%◌, nat_le, Option, codes, option_map}
use Rattle.std.specs.List.{find}
use Rattle.ft_base.specs.Names.{is_name}
use Rattle.cmd_parse.specs.declared.command.Verb.TheVariants.{Ping, Echo, Select, Quit, Hset, Hsetnx, Hget, Hmget, Hgetall, Hdel, Hlen, Hexists, Hincrby, Hkeys, Hvals, Del, Exists, TypeOf, Dbsize, Rename, Flushall, DropIndex, ListIndexes, Info, TagVals, Debug}
use Rattle.cmd_parse.specs.declared.table.Form.{Form}
use Rattle.cmd_parse.specs.declared.table.Form.TheVariants.{Between, AtLeast, InPairs, Create, Alter, Search, Aggregate, Cursor}

-- The table of commands. The numbers are numbers of words, the name among them; in pairs only even ones are lawful.
abbrev pub commands : List (List ℕ × Form)
commands =
    (codes "PING", Between Ping 1 2)
    ∷ (codes "ECHO", Between Echo 2 2)
    ∷ (codes "SELECT", Between Select 2 2)
    ∷ (codes "QUIT", AtLeast Quit 1)
    ∷ (codes "HSET", InPairs Hset 4)
    ∷ (codes "HSETNX", Between Hsetnx 4 4)
    ∷ (codes "HGET", Between Hget 3 3)
    ∷ (codes "HMGET", AtLeast Hmget 3)
    ∷ (codes "HGETALL", Between Hgetall 2 2)
    ∷ (codes "HDEL", AtLeast Hdel 3)
    ∷ (codes "HLEN", Between Hlen 2 2)
    ∷ (codes "HEXISTS", Between Hexists 3 3)
    ∷ (codes "HINCRBY", Between Hincrby 4 4)
    ∷ (codes "HKEYS", Between Hkeys 2 2)
    ∷ (codes "HVALS", Between Hvals 2 2)
    ∷ (codes "DEL", AtLeast Del 2)
    ∷ (codes "EXISTS", AtLeast Exists 2)
    ∷ (codes "TYPE", Between TypeOf 2 2)
    ∷ (codes "DBSIZE", Between Dbsize 1 1)
    ∷ (codes "RENAME", Between Rename 3 3)
    ∷ (codes "FLUSHALL", Between Flushall 1 2)
    ∷ (codes "FT.CREATE", Create 5)
    ∷ (codes "FT.ALTER", Alter 6)
    ∷ (codes "FT.DROPINDEX", Between DropIndex 2 3)
    ∷ (codes "FT._LIST", Between ListIndexes 1 1)
    ∷ (codes "FT.INFO", Between Info 2 2)
    ∷ (codes "FT.TAGVALS", Between TagVals 3 3)
    ∷ (codes "FT.SEARCH", Search 3)
    ∷ (codes "FT.AGGREGATE", Aggregate 3)
    ∷ (codes "FT.CURSOR", Cursor 4)
    ∷ (codes "FT.DEBUG", Between Debug 3 3)
    ∷ []

-- what the first row stands for whose name a word is
abbrev pub form_in : List (List ℕ × Form) → List ℕ → Option Form
form_in rows word = option_map (λ row. row.1) (find (λ row. is_name word row.0) rows)

-- what a word stands for as a command's name
abbrev pub form_of : List ℕ → Option Form
form_of word = form_in commands word

-- whether a command of this form may have so many words
abbrev pub fits : Form → ℕ → Bool
fits (Between verb least most) count = nat_le least count && nat_le count most
fits (AtLeast verb least) count = nat_le least count
fits (InPairs verb least) count = nat_le least count && (count % 2 == 0)
fits (Create least) count = nat_le least count
fits (Alter least) count = nat_le least count
fits (Search least) count = nat_le least count
fits (Aggregate least) count = nat_le least count
fits (Cursor least) count = nat_le least count
