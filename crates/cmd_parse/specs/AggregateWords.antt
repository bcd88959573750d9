-- The words of properties, expressions and cursors in FT.AGGREGATE (RediSearch).
--
-- The tree of an expression is part of what its word asks, so reading from the left finds a fault of an expression before
-- one of the words behind it. The tree is read by the reader of expr_eval's tokens, which finds a tree exactly where the
-- grammar has one (proofs/ExpressionLaws.antt): so what is asked stays a function of the words.
use Rattle.std.specs.Prelude.{ℕ, List, [], ◌∷◌, ◌++◌, length, Bool, nat_le, ◌-◌, ◌==◌, ◌&&◌, Option, Some, None, Result, Ok, Err, codes, if◌then◌else◌}
use Rattle.ft_base.specs.Names.{is_name}
use Rattle.ft_base.specs.Reading.{◌>>=◌, parts_at}
use Rattle.expr_eval.specs.Answer.{most_levels}
use Rattle.expr_eval.specs.Reading.{Stop as Unread, whole_at}
use Rattle.expr_eval.specs.Tokens.{kinds, tokens_of}
use Rattle.expr_eval.specs.declared.fault.ExprFault.{ExprFault}
use Rattle.expr_eval.specs.declared.fault.ExprFault.TheVariants as faults
use Rattle.expr_eval.specs.declared.tree.Expr.{Expr}
use Rattle.cmd_parse.specs.Options.{is_as}
use Rattle.cmd_parse.specs.Words.{Word, Read, fault, word_at, number_at}
use Rattle.cmd_parse.specs.declared.aggregate_words.CursorSpec.{CursorSpec}
use Rattle.cmd_parse.specs.declared.aggregate_names.NameForm.{NameForm}
use Rattle.cmd_parse.specs.declared.aggregate_names.NameForm.TheVariants as form
use Rattle.cmd_parse.specs.declared.stop.Cause.{Cause}
use Rattle.cmd_parse.specs.declared.stop.Cause.TheVariants.{Limit, OutOfScope, Syntax}
use Rattle.cmd_parse.specs.declared.stop.Stop.{Stop}
use Rattle.cmd_parse.specs.declared.stop.Stop.TheVariants.{Fault, NoMemory}

-- a name of one byte at least
abbrev pub some_name : Word → Result Word Cause
some_name [] = Err Syntax
some_name (b ∷ name) = Ok (b ∷ name)

-- The name of a property: `@`, the byte 64, and a name.
abbrev pub property_name : Word → Result Word Cause
property_name [] = Err Syntax
property_name (b ∷ name) = if b == 64 then some_name name else Err Syntax

-- The same where `@` may be left out, as in LOAD.
abbrev pub bare_name : Word → Result Word Cause
bare_name [] = Err Syntax
bare_name (b ∷ name) = if b == 64 then some_name name else Ok (b ∷ name)

-- The name that a word gives. AS among the words of LOAD is left out.
unfoldable pub name_of : NameForm → Word → Result Word Cause
name_of form.Property word = property_name word
name_of form.Loaded word = if is_as word then Err OutOfScope else bare_name word

abbrev pub named_with : Result Word Cause → List Word → List Word → Read Word
named_with (Ok name) from words = Ok (name, words)
named_with (Err cause) from words = fault cause from

-- the next word as a name
abbrev pub named_at : NameForm → List Word → Read Word
named_at form words = word_at words >>= λ word. named_with (name_of form word.0) words word.1

-- A number, and how many words stand behind so many; where there are fewer, the fault is at their number.
abbrev pub count_at : List Word → Read ℕ
count_at words = number_at words >>= λ count. if nat_le count.0 (length count.1) then Ok (length count.1 - count.0, count.1) else fault Syntax words

-- whether the words left are those behind the counted ones
abbrev pub are_behind : ℕ → List Word → Bool
are_behind behind words = nat_le (length words) behind

-- a name behind others
unfoldable pub name_at : NameForm → List Word → List Word → Read (List Word)
name_at form names words = named_at form words >>= λ name. Ok (names ++ name.0 ∷ [], name.1)

-- the names up to the words behind
abbrev pub names_up_to : NameForm → ℕ → List Word → Read (List Word)
names_up_to form behind words = parts_at (are_behind behind) (name_at form) [] words

-- a number, and so many names
abbrev pub counted_names : NameForm → List Word → Read (List Word)
counted_names form words = count_at words >>= λ n. names_up_to form n.0 n.1

-- The tree of an expression's text, where it is one.
abbrev pub tree_or_none : Result Expr Unread → Option Expr
tree_or_none (Ok tree) = Some tree
tree_or_none (Err stop) = None

unfoldable pub tree_of : Word → Option Expr
tree_of text = tree_or_none (whole_at most_levels (kinds (tokens_of text)))

abbrev pub expression_with : Option Expr → List Word → List Word → Read Expr
expression_with None from words = fault Syntax from
expression_with (Some tree) from words = Ok (tree, words)

-- the next word as an expression
abbrev pub expression_at : List Word → Read Expr
expression_at words = word_at words >>= λ text. expression_with (tree_of text.0) words text.1

-- a fault of an expression, the first of these words, is one of its word
abbrev pub expression_stop : ExprFault → List Word → Stop
expression_stop faults.NoMemory words = NoMemory
expression_stop (faults.Syntax at) words = Fault Syntax (length words)
expression_stop (faults.TooDeep at) words = Fault Syntax (length words)

-- AS, and a name as it is
abbrev pub as_at : List Word → Read Word
as_at words = word_at words >>= λ word. if is_as word.0 then word_at word.1 else fault Syntax words

-- a number from 1 up to a limit
abbrev pub limited_at : ℕ → List Word → Read ℕ
limited_at most words = number_at words >>= λ n. if nat_le 1 n.0 && nat_le n.0 most then Ok n else fault Limit words

-- the number behind a word of this name; where the word is not there, another
abbrev pub number_or : List ℕ → ℕ → ℕ → List Word → Read ℕ
number_or name most other [] = Ok (other, [])
number_or name most other (word ∷ words) = if is_name word name then limited_at most words else Ok (other, word ∷ words)

-- the most rows of a read of a cursor, and how many they are where COUNT does not say
abbrev pub most_count : ℕ
most_count = 1000000

abbrev pub usual_count : ℕ
usual_count = 1000

-- the most milliseconds between two reads, and how many they are where MAXIDLE does not say
abbrev pub most_idle : ℕ
most_idle = 2147483647

abbrev pub usual_idle : ℕ
usual_idle = 300000

-- WITHCURSOR: COUNT and MAXIDLE, in this order
abbrev pub cursor_at : List Word → Read CursorSpec
cursor_at words = do
  count ← number_or (codes "COUNT") most_count usual_count words
  idle ← number_or (codes "MAXIDLE") most_idle usual_idle count.1
  Ok (record { count = count.0; max_idle = idle.0 }, idle.1)
