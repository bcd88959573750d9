-- What the definition says of a few commands.
use Rattle.std.proofs.Common.{◌≡◌, ℕ, List, [], ◌∷◌, true, Ok, Err, Some, None, refl, pos, lit<}
use Rattle.std.specs.Prelude.{codes}
use Rattle.std.proofs.lemmas.Fmt.{decimal_digit}
use Rattle.ft_base.specs.Number.{int_of}
use Rattle.ft_base.specs.Reading.{parts_at}
use Rattle.cmd_parse.specs.OptionNames.{option_of}
use Rattle.cmd_parse.specs.Read.{Plain, Search, read}
use Rattle.cmd_parse.specs.Given.{nothing_given}
use Rattle.cmd_parse.specs.Search.{option_at, option_with}
use Rattle.cmd_parse.specs.Searching.{searching_of}
use Rattle.cmd_parse.specs.declared.command.CmdFault.TheVariants.{Arity, BadDb, NotInteger, Syntax, Unknown}
use Rattle.cmd_parse.specs.declared.command.Verb.TheVariants.{Debug, DropIndex, Flushall, Hget, Hset, Hvals, Info, Select}

-- the words of the examples
abbrev key : List ℕ
key = codes "k"

abbrev field : List ℕ
field = codes "f"

abbrev value : List ℕ
value = codes "v"

-- a name in small letters, and arguments without it
small_letters : read 0 (codes "hget" ∷ key ∷ field ∷ []) ≡ Ok (Plain Hget (key ∷ field ∷ []))
small_letters = refl

-- and in mixed ones
mixed_letters : read 0 (codes "HVals" ∷ key ∷ []) ≡ Ok (Plain Hvals (key ∷ []))
mixed_letters = refl

-- no command has this name
no_name : read 0 (codes "NOPE" ∷ []) ≡ Err Unknown
no_name = refl

-- a name with one more byte is none
longer_name : read 0 (codes "HGETS" ∷ key ∷ field ∷ []) ≡ Err Unknown
longer_name = refl

-- HSET of one field
one_pair : read 0 (codes "HSET" ∷ key ∷ field ∷ value ∷ []) ≡ Ok (Plain Hset (key ∷ field ∷ value ∷ []))
one_pair = refl

-- HSET of a field without its value
half_a_pair : read 0 (codes "HSET" ∷ key ∷ field ∷ value ∷ codes "g" ∷ []) ≡ Err Arity
half_a_pair = refl

-- DBSIZE stands alone
surplus_word : read 0 (codes "DBSIZE" ∷ key ∷ []) ≡ Err Arity
surplus_word = refl

-- FT.INFO has one index
told : read 0 (codes "ft.info" ∷ key ∷ []) ≡ Ok (Plain Info (key ∷ []))
told = refl

not_told : read 0 (codes "FT.INFO" ∷ key ∷ key ∷ []) ≡ Err Arity
not_told = refl

-- FT.DEBUG with the one word that it has, with another, and without an index
collected : read 0 (codes "ft.debug" ∷ codes "gc_forceInvoke" ∷ key ∷ []) ≡ Ok (Plain Debug (codes "gc_forceInvoke" ∷ key ∷ []))
collected = refl

debug_how : read 0 (codes "FT.DEBUG" ∷ codes "GC_CONTINUE" ∷ key ∷ []) ≡ Err (Syntax 1)
debug_how = refl

debug_nothing : read 0 (codes "FT.DEBUG" ∷ codes "GC_FORCEINVOKE" ∷ []) ≡ Err Arity
debug_nothing = refl

-- FLUSHALL with a word that it may have, and with another
flush_later : read 0 (codes "FLUSHALL" ∷ codes "async" ∷ []) ≡ Ok (Plain Flushall (codes "async" ∷ []))
flush_later = refl

flush_how : read 0 (codes "FLUSHALL" ∷ codes "now" ∷ []) ≡ Err (Syntax 1)
flush_how = refl

-- FT.CREATE of four words has no field
no_field : read 0 (codes "ft.create" ∷ codes "ix" ∷ codes "schema" ∷ field ∷ []) ≡ Err Arity
no_field = refl

-- FT.DROPINDEX with the word that it may have, and with another
drop_documents : read 0 (codes "ft.dropindex" ∷ codes "ix" ∷ codes "dd" ∷ []) ≡ Ok (Plain DropIndex (codes "ix" ∷ codes "dd" ∷ []))
drop_documents = refl

drop_how : read 0 (codes "FT.DROPINDEX" ∷ codes "ix" ∷ codes "KEEPDOCS" ∷ []) ≡ Err (Syntax 2)
drop_how = refl

-- a search has a query
no_query : read 0 (codes "FT.SEARCH" ∷ codes "ix" ∷ []) ≡ Err Arity
no_query = refl

-- the numbers of the examples
digit_0 : int_of (codes "0") ≡ Some (pos 0)
unfolding int_of
digit_0 = rw (decimal_digit 0 (lit< tt)) refl

digit_1 : int_of (codes "1") ≡ Some (pos 1)
unfolding int_of
digit_1 = rw (decimal_digit 1 (lit< tt)) refl

plus_5 : int_of (codes "+5") ≡ None
unfolding int_of
plus_5 = rw (decimal_digit 5 (lit< tt)) refl

-- SELECT of the one data base, and of another
select_0 : read 0 (codes "SELECT" ∷ codes "0" ∷ []) ≡ Ok (Plain Select (codes "0" ∷ []))
select_0 = rw digit_0 refl

select_1 : read 0 (codes "SELECT" ∷ codes "1" ∷ []) ≡ Err BadDb
select_1 = rw digit_1 refl

-- an increment with a plus sign
lax_increment : read 0 (codes "HINCRBY" ∷ key ∷ field ∷ codes "+5" ∷ []) ≡ Err NotInteger
lax_increment = rw plus_5 refl

-- a search, and the fault of one
keys_alone : read 0 (codes "ft.search" ∷ codes "ix" ∷ codes "World" ∷ codes "nocontent" ∷ [])
    ≡ Ok (Search (searching_of (codes "ix") (codes "World") (record nothing_given { no_content = true })))
unfolding option_of option_with option_at parts_at
keys_alone = refl

keys_twice : read 0 (codes "FT.SEARCH" ∷ codes "ix" ∷ codes "q" ∷ codes "NOCONTENT" ∷ codes "NOCONTENT" ∷ []) ≡ Err (Syntax 4)
unfolding option_of option_with option_at parts_at
keys_twice = refl
