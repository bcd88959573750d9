-- What the definition says of some words of FT.CURSOR, which are parted by blanks here.
use Rattle.std.proofs.Common.{◌≡◌, ◌∙◌, ℕ, List, [], ◌∷◌, map, Option, Some, None, Result, Ok, Err, refl, ap, lit<}
use Rattle.std.specs.Prelude.{◌&&◌, codes, nat_le, if◌then◌else◌}
use Rattle.std.proofs.lemmas.Fmt.{decimal_digit}
use Rattle.ft_base.specs.Number.{int_of}
use Rattle.ft_base.specs.Reading.{◌>>=◌}
use Rattle.cmd_parse.specs.AggregateWords.{most_count}
use Rattle.cmd_parse.specs.Asked.{Asked, CursorRead, CursorDel}
use Rattle.cmd_parse.specs.Cursor.{asked_by, cursor, cursor_with, read_by, rows_at, unless_more}
use Rattle.cmd_parse.specs.Read.{read}
use Rattle.cmd_parse.specs.Words.{Word, Read, fault, number_at}
use Rattle.cmd_parse.specs.declared.command.CmdFault.{CmdFault}
use Rattle.cmd_parse.specs.declared.command.CmdFault.TheVariants.{Arity, Limit, Syntax}
use Rattle.cmd_parse.specs.declared.cursor.Subcommand.TheVariants as subcommand
use Rattle.cmd_parse.specs.declared.stop.Cause.TheVariants as causes
use Rattle.cmd_parse.specs.declared.stop.Stop.TheVariants.{Fault}
use Rattle.cmd_parse.proofs.SearchExamples.{is_0, is_1, is_2, is_million, is_more, words, x_is_none}

-- fewer than four words, and a command of the table
few : map (λ text. read 0 (words text)) (codes "FT.CURSOR" ∷ codes "FT.CURSOR READ ix" ∷ []) ≡ Err Arity ∷ Err Arity ∷ []
few = refl

deleted : read 0 (words (codes "ft.cursor Del ix 0")) ≡ Ok (CursorDel (codes "ix") 0)
unfolding number_at
deleted = rw (is_0) refl

-- what FT.CURSOR asks that has these words behind its name
abbrev asked : List ℕ → Result Asked CmdFault
asked text = cursor (codes "FT.CURSOR" ∷ words text)

-- neither READ nor DEL
others : map asked (codes "PURGE ix 1" ∷ codes "PURGE ix x y z" ∷ []) ≡ Err (Syntax 1) ∷ Err (Syntax 1) ∷ []
others = refl

-- an id is a number, which has no leading zero
zero_1 : int_of (codes "01") ≡ None
unfolding int_of
zero_1 = rw (decimal_digit 1 (lit< tt)) refl

ids : map asked (codes "READ ix 0" ∷ codes "del ix 1" ∷ codes "READ ix 01" ∷ []) ≡ Ok (CursorRead (codes "ix") 0 None) ∷ Ok (CursorDel (codes "ix") 1) ∷ Err (Syntax 3) ∷ []
unfolding number_at
ids = rw (is_0, is_1, zero_1) refl

-- COUNT, from 1 to 1,000,000
one_row : (more : List Word) → rows_at (codes "COUNT" ∷ codes "1" ∷ more) ≡ Ok (Some 1, more)
unfolding number_at
one_row more = rw (is_1) refl

most_rows : rows_at (words (codes "count 1000000")) ≡ Ok (Some 1000000, [])
unfolding number_at
most_rows = rw (is_million) refl

more_rows : rows_at (words (codes "COUNT 1000001")) ≡ Err (Fault causes.Limit 1)
unfolding number_at
more_rows = rw (is_more) refl

no_row : rows_at (words (codes "COUNT 0")) ≡ Err (Fault causes.Limit 1)
unfolding number_at
no_row = rw (is_0) refl

no_number : (more : List Word) → number_at (codes "x" ∷ more) ≡ fault causes.Syntax (codes "x" ∷ more)
unfolding number_at
no_number more = rw x_is_none refl

-- what is made of the number behind COUNT, which the first of these words is
abbrev behind_count : List Word → Read ℕ → Read (Option ℕ)
behind_count from n = (n >>= λ n. if nat_le 1 n.0 && nat_le n.0 most_count then Ok n else fault causes.Limit from) >>= λ n. Ok (Some n.0, n.1)

not_a_number : rows_at (words (codes "COUNT x")) ≡ Err (Fault causes.Syntax 1)
not_a_number = ap (behind_count (words (codes "x"))) (no_number [])

no_word : map (λ text. rows_at (words text)) (codes "COUNT" ∷ codes "MAXIDLE 1" ∷ []) ≡ Err (Fault causes.Syntax 0) ∷ Ok (None, words (codes "MAXIDLE 1")) ∷ []
unfolding number_at
no_word = refl

-- a word too many
surplus : map (λ words. asked_by subcommand.Read (codes "ix") 2 words) (words (codes "1") ∷ words (codes "MAXIDLE 1") ∷ []) ≡ Err (Fault causes.Syntax 1) ∷ Err (Fault causes.Syntax 2) ∷ []
surplus = refl

surplus_of_del : asked_by subcommand.Del (codes "ix") 2 (words (codes "COUNT 1")) ≡ Err (Fault causes.Syntax 2)
surplus_of_del = refl

-- READ of the cursor 2, in a command of so many words
abbrev behind_index : ℕ → Read ℕ → Result Asked CmdFault
behind_index total id = cursor_with total (id >>= λ n. read_by (codes "ix") n.0 n.1)

abbrev behind_id : ℕ → Read (Option ℕ) → Result Asked CmdFault
behind_id total rows = cursor_with total (rows >>= λ count. unless_more count.1 (CursorRead (codes "ix") 2 count.0))

second : (more : List Word) → number_at (codes "2" ∷ more) ≡ Ok (2, more)
unfolding number_at
second more = rw (is_2) refl

counted : asked (codes "READ ix 2 COUNT 1") ≡ Ok (CursorRead (codes "ix") 2 (Some 1))
counted = ap (behind_index 6) (second (words (codes "COUNT 1"))) ∙ ap (behind_id 6) (one_row [])

not_counted : asked (codes "READ ix 2 COUNT 0") ≡ Err (Limit 5)
not_counted = ap (behind_index 6) (second (words (codes "COUNT 0"))) ∙ ap (behind_id 6) no_row

counted_twice : asked (codes "READ ix 2 COUNT 1 COUNT 1") ≡ Err (Syntax 6)
counted_twice = ap (behind_index 8) (second (words (codes "COUNT 1 COUNT 1"))) ∙ ap (behind_id 8) (one_row (words (codes "COUNT 1")))

-- of several faults the first
first_of_two : asked (codes "READ ix x COUNT 0") ≡ Err (Syntax 3)
first_of_two = ap (behind_index 6) (no_number (words (codes "COUNT 0")))
