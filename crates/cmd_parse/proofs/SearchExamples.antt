-- What the definitions say of some searches, whose words are parted by blanks here.
use Rattle.std.proofs.Common.{◌≡◌, ◌<◌, ◌≤◌, ◌/◌, ◌%◌, ◌+◌, ◌^◌, ◌==◌, ℕ, pos, negsuc, true, false, cond, List, [], ◌∷◌, ◌++◌, map, length, Some, None, Result, Ok, Err, refl, ap, ◌∙◌, lit<, lit≤}
use Rattle.std.specs.Fmt.{decimal}
use Rattle.std.specs.Prelude.{codes}
use Rattle.std.proofs.lemmas.Fmt.{decimal_digit, decimal_step}
use Rattle.ft_base.specs.Number.{int_of}
use Rattle.ft_base.specs.Reading.{◌>>=◌, parts_at}
use Rattle.ft_base.proofs.PartsLaws.{begins, ended, goes_on, stops_there}
use Rattle.cmd_parse.specs.OptionNames.{option_of}
use Rattle.cmd_parse.specs.Given.{Given, nothing_given}
use Rattle.cmd_parse.specs.Search.{is_at_end, option_at, option_with}
use Rattle.cmd_parse.specs.Searching.{Searching, placed, search, search_with, searching_of}
use Rattle.cmd_parse.specs.Words.{Word, Read, number_at}
use Rattle.cmd_parse.specs.declared.command.CmdFault.{CmdFault}
use Rattle.cmd_parse.specs.declared.command.CmdFault.TheVariants.{Limit, OutOfScope, Syntax}
use Rattle.cmd_parse.specs.declared.stop.Cause.TheVariants as causes
use Rattle.cmd_parse.specs.declared.stop.Stop.{Stop}
use Rattle.cmd_parse.specs.declared.stop.Stop.TheVariants.{Fault}
use Rattle.cmd_parse.proofs.OptionsLaws.{some-left}

-- the first word of a text, and the others
abbrev pub pieces : List ℕ → List ℕ × List Word
pieces [] = ([], [])
pieces (b ∷ text) = cond (b == 32) ([], (pieces text).0 ∷ (pieces text).1) (b ∷ (pieces text).0, (pieces text).1)

abbrev pub words : List ℕ → List Word
words text = (pieces text).0 ∷ (pieces text).1

-- what FT.SEARCH asks that has these options behind an index and a query
abbrev command : List Word → List Word
command options = codes "FT.SEARCH" ∷ codes "ix" ∷ codes "q" ∷ options

abbrev asked : List Word → Result Searching CmdFault
asked options = search (command options)

abbrev searching : Given → Result Searching CmdFault
searching given = Ok (searching_of (codes "ix") (codes "q") given)

-- no option: ten rows from the first, with their fields
no_options : asked []
    ≡ Ok (record { index = codes "ix"; query = codes "q"; no_content = false; fields = None; keys = None; filters = []; sort = None; offset = 0; num = 10; params = [] })
unfolding parts_at
no_options = refl

-- options without numbers, and the faults of such
rows : map (λ text. asked (words text)) (
    codes "nocontent"
    ∷ codes "VERBATIM SortBy n DESC"
    ∷ codes "SORTBY n NOCONTENT"
    ∷ codes "SORTBY n ASC ASC"
    ∷ codes "SORTBY"
    ∷ codes "NOCONTENT NOCONTENT"
    ∷ codes "SORTBY n sortby m"
    ∷ codes "VERBATIM WITHSCORES VERBATIM VERBATIM"
    ∷ codes "NOCONTENT PAYLOADS"
    ∷ codes "LIMIT"
    ∷ [])
    ≡ searching (record nothing_given { no_content = true })
    ∷ searching (record nothing_given { verbatim = true; sort = Some (record { at = 5; field = codes "n"; descending = true }) })
    ∷ searching (record nothing_given { no_content = true; sort = Some (record { at = 4; field = codes "n"; descending = false }) })
    ∷ Err (Syntax 6)
    ∷ Err (Syntax 4)
    ∷ Err (Syntax 4)
    ∷ Err (Syntax 5)
    ∷ Err (OutOfScope 4)
    ∷ Err (Syntax 4)
    ∷ Err (Syntax 4)
    ∷ []
unfolding option_of option_with option_at parts_at number_at
rows = refl

-- FILTER, any number of times: an end that is left out, infinite ends, an interval without a number, and words that are no end
filters : map (λ text. asked (words text)) (
    codes "FILTER n (5 inf"
    ∷ codes "FILTER n -INF (+07 filter m 5 1"
    ∷ codes "FILTER n (9223372036854775807 +inf"
    ∷ codes "FILTER n (inf (-inf"
    ∷ codes "FILTER n 5 y"
    ∷ codes "FILTER n ((5 6"
    ∷ codes "FILTER n ( 6"
    ∷ codes "FILTER n 5"
    ∷ [])
    ≡ searching (record nothing_given { filters = record { at = 4; field = codes "n"; interval = Some (pos 6, pos 9223372036854775807) } ∷ [] })
    ∷ searching (record nothing_given {
      filters =
          record { at = 4; field = codes "n"; interval = Some (negsuc 9223372036854775807, pos 6) } ∷ record { at = 8; field = codes "m"; interval = None } ∷ [];
    })
    ∷ searching (record nothing_given { filters = record { at = 4; field = codes "n"; interval = None } ∷ [] })
    ∷ searching (record nothing_given { filters = record { at = 4; field = codes "n"; interval = None } ∷ [] })
    ∷ Err (Syntax 6)
    ∷ Err (Syntax 5)
    ∷ Err (Syntax 5)
    ∷ Err (Syntax 6)
    ∷ []
unfolding option_of option_with option_at parts_at number_at
filters = refl

-- the numbers of the examples, and a word that is none
next_digit : (n : ℕ) (front : List ℕ) → 10 ≤ n → n < 2 ^ 64 → decimal (n / 10) ≡ front → decimal n ≡ front ++ ((48 + n % 10) ∷ [])
next_digit n front some small e = decimal_step n some small ∙ ap (λ text. text ++ ((48 + n % 10) ∷ [])) e

ten : decimal 10 ≡ codes "10"
ten = next_digit 10 (codes "1") (lit≤ tt) (lit< tt) (decimal_digit 1 (lit< tt))

thousand : decimal 1000 ≡ codes "1000"
thousand = next_digit 1000 (codes "100") (lit≤ tt) (lit< tt) (next_digit 100 (codes "10") (lit≤ tt) (lit< tt) ten)

hundred_thousand : decimal 100000 ≡ codes "100000"
hundred_thousand = next_digit 100000 (codes "10000") (lit≤ tt) (lit< tt) (next_digit 10000 (codes "1000") (lit≤ tt) (lit< tt) thousand)

million : decimal 1000000 ≡ codes "1000000"
million = next_digit 1000000 (codes "100000") (lit≤ tt) (lit< tt) hundred_thousand

after_million : decimal 1000001 ≡ codes "1000001"
after_million = next_digit 1000001 (codes "100000") (lit≤ tt) (lit< tt) hundred_thousand

pub is_0 : int_of (codes "0") ≡ Some (pos 0)
unfolding int_of
is_0 = rw (decimal_digit 0 (lit< tt)) refl

pub is_1 : int_of (codes "1") ≡ Some (pos 1)
unfolding int_of
is_1 = rw (decimal_digit 1 (lit< tt)) refl

pub is_2 : int_of (codes "2") ≡ Some (pos 2)
unfolding int_of
is_2 = rw (decimal_digit 2 (lit< tt)) refl

pub is_3 : int_of (codes "3") ≡ Some (pos 3)
unfolding int_of
is_3 = rw (decimal_digit 3 (lit< tt)) refl

pub is_4 : int_of (codes "4") ≡ Some (pos 4)
unfolding int_of
is_4 = rw (decimal_digit 4 (lit< tt)) refl

pub is_million : int_of (codes "1000000") ≡ Some (pos 1000000)
unfolding int_of
is_million = rw million refl

pub is_more : int_of (codes "1000001") ≡ Some (pos 1000001)
unfolding int_of
is_more = rw after_million refl

thirty_three : decimal 33 ≡ codes "33"
thirty_three = next_digit 33 (codes "3") (lit≤ tt) (lit< tt) (decimal_digit 3 (lit< tt))

pub x_is_none : int_of (codes "x") ≡ None
unfolding int_of
x_is_none = rw thirty_three refl

-- A search of one option is what the option gives.
abbrev alone : List Word → Read Given
alone options = option_at (length (command options)) nothing_given options

refused : (options : List Word) (stop : Stop) → is_at_end options ≡ false → alone options ≡ Err stop → asked options ≡ Err (placed (length (command options)) stop)
refused options stop more e =
    let total = length (command options) in
    let stops = stops_there is_at_end (option_at total) nothing_given options _ stop more e (begins is_at_end (option_at total) nothing_given options) in
    ap (search_with total (codes "ix") (codes "q")) (ap (λ (r : Read Given). r >>= λ x. Ok x.0) stops)

answered : (options : List Word) (given : Given) → is_at_end options ≡ false → alone options ≡ Ok (given, []) → asked options ≡ searching given
answered options given more e =
    let total = length (command options) in
    let start = begins is_at_end (option_at total) nothing_given options in
    let end = goes_on is_at_end (option_at total) nothing_given given options [] _ more e (some-left options more) start in
    ap (search_with total (codes "ix") (codes "q")) (ap (λ (r : Read Given). r >>= λ x. Ok x.0) (ended is_at_end (option_at total) given [] _ refl end))

-- LIMIT: the second row and the third
window : asked (codes "LIMIT" ∷ codes "1" ∷ codes "2" ∷ []) ≡ searching (record nothing_given { window = Some (1, 2) })
unfolding option_of option_with option_at number_at
window = answered (codes "LIMIT" ∷ codes "1" ∷ codes "2" ∷ []) (record nothing_given { window = Some (1, 2) }) refl (rw (is_1, is_2) refl)

-- no rows, behind any that there may be
no_rows : asked (codes "LIMIT" ∷ codes "1000000" ∷ codes "0" ∷ []) ≡ searching (record nothing_given { window = Some (1000000, 0) })
unfolding option_of option_with option_at number_at
no_rows = answered (codes "LIMIT" ∷ codes "1000000" ∷ codes "0" ∷ []) (record nothing_given { window = Some (1000000, 0) }) refl (rw (is_million, is_0) refl)

-- RETURN: two fields
two_fields : asked (codes "RETURN" ∷ codes "2" ∷ codes "t" ∷ codes "u" ∷ []) ≡ searching (record nothing_given { fields = Some (codes "t" ∷ codes "u" ∷ []) })
unfolding option_of option_with option_at number_at
two_fields = answered (codes "RETURN" ∷ codes "2" ∷ codes "t" ∷ codes "u" ∷ []) (record nothing_given { fields = Some (codes "t" ∷ codes "u" ∷ []) }) refl (rw (is_2) refl)

-- RETURN of no field
no_fields : asked (codes "RETURN" ∷ codes "0" ∷ []) ≡ searching (record nothing_given { fields = Some [] })
unfolding option_of option_with option_at number_at
no_fields = answered (codes "RETURN" ∷ codes "0" ∷ []) (record nothing_given { fields = Some [] }) refl (rw (is_0) refl)

-- INKEYS: two keys
two_keys : asked (codes "INKEYS" ∷ codes "2" ∷ codes "a" ∷ codes "b" ∷ []) ≡ searching (record nothing_given { keys = Some (codes "a" ∷ codes "b" ∷ []) })
unfolding option_of option_with option_at number_at
two_keys = answered (codes "INKEYS" ∷ codes "2" ∷ codes "a" ∷ codes "b" ∷ []) (record nothing_given { keys = Some (codes "a" ∷ codes "b" ∷ []) }) refl (rw (is_2) refl)

-- PARAMS: one parameter
one_param : asked (codes "PARAMS" ∷ codes "2" ∷ codes "k" ∷ codes "v" ∷ []) ≡ searching (record nothing_given { params = Some (record { name = codes "k"; value = codes "v" } ∷ []) })
unfolding option_of option_with option_at number_at
one_param = answered (codes "PARAMS" ∷ codes "2" ∷ codes "k" ∷ codes "v" ∷ []) (record nothing_given { params = Some (record { name = codes "k"; value = codes "v" } ∷ []) }) refl (rw (is_2) refl)

-- PARAMS of none
no_params : asked (codes "PARAMS" ∷ codes "0" ∷ []) ≡ searching (record nothing_given { params = Some [] })
unfolding option_of option_with option_at number_at
no_params = answered (codes "PARAMS" ∷ codes "0" ∷ []) (record nothing_given { params = Some [] }) refl (rw (is_0) refl)

-- DIALECT and TIMEOUT have no effect
second_dialect : asked (codes "DIALECT" ∷ codes "2" ∷ []) ≡ searching (record nothing_given { dialect = true })
unfolding option_of option_with option_at number_at
second_dialect = answered (codes "DIALECT" ∷ codes "2" ∷ []) (record nothing_given { dialect = true }) refl (rw (is_2) refl)

some_time : asked (codes "TIMEOUT" ∷ codes "3" ∷ []) ≡ searching (record nothing_given { timeout = true })
unfolding option_of option_with option_at number_at
some_time = answered (codes "TIMEOUT" ∷ codes "3" ∷ []) (record nothing_given { timeout = true }) refl (rw (is_3) refl)

-- and then keys alone are shown
keys_alone : (searching_of (codes "ix") (codes "q") (record nothing_given { fields = Some [] })).no_content ≡ true
keys_alone = refl

-- so NOCONTENT behind it is no repeat
no_repeat : option_at 6 (record nothing_given { fields = Some [] }) (codes "NOCONTENT" ∷ []) ≡ Ok (record nothing_given { fields = Some []; no_content = true }, [])
unfolding option_of option_with option_at
no_repeat = refl

-- a window that ends past the limit: the fault is at its first number
past_the_limit : asked (codes "LIMIT" ∷ codes "1000000" ∷ codes "1" ∷ []) ≡ Err (Limit 4)
unfolding option_of option_with option_at number_at
past_the_limit = refused (codes "LIMIT" ∷ codes "1000000" ∷ codes "1" ∷ []) (Fault causes.Limit 2) refl (rw (is_million, is_1) refl)

-- a second number that is none, however large the first is
no_number : asked (codes "LIMIT" ∷ codes "1000001" ∷ codes "x" ∷ []) ≡ Err (Syntax 5)
unfolding option_of option_with option_at number_at
no_number = refused (codes "LIMIT" ∷ codes "1000001" ∷ codes "x" ∷ []) (Fault causes.Syntax 1) refl (rw (is_more, x_is_none) refl)

-- no second number
no_second : asked (codes "LIMIT" ∷ codes "1" ∷ []) ≡ Err (Syntax 5)
unfolding option_of option_with option_at number_at
no_second = refused (codes "LIMIT" ∷ codes "1" ∷ []) (Fault causes.Syntax 0) refl (rw (is_1) refl)

-- RETURN with AS among its words
named_as : asked (codes "RETURN" ∷ codes "1" ∷ codes "AS" ∷ []) ≡ Err (OutOfScope 5)
unfolding option_of option_with option_at number_at
named_as = refused (codes "RETURN" ∷ codes "1" ∷ codes "AS" ∷ []) (Fault causes.OutOfScope 1) refl (rw (is_1) refl)

-- a count of more words than there are
too_few_fields : asked (codes "RETURN" ∷ codes "2" ∷ codes "t" ∷ []) ≡ Err (Syntax 4)
unfolding option_of option_with option_at number_at
too_few_fields = refused (codes "RETURN" ∷ codes "2" ∷ codes "t" ∷ []) (Fault causes.Syntax 2) refl (rw (is_2) refl)

-- INKEYS of no key
no_keys : asked (codes "INKEYS" ∷ codes "0" ∷ []) ≡ Err (Syntax 4)
unfolding option_of option_with option_at number_at
no_keys = refused (codes "INKEYS" ∷ codes "0" ∷ []) (Fault causes.Syntax 1) refl (rw (is_0) refl)

-- PARAMS of an odd number
odd_params : asked (codes "PARAMS" ∷ codes "3" ∷ codes "k" ∷ codes "v" ∷ codes "k" ∷ []) ≡ Err (Syntax 4)
unfolding option_of option_with option_at number_at
odd_params = refused (codes "PARAMS" ∷ codes "3" ∷ codes "k" ∷ codes "v" ∷ codes "k" ∷ []) (Fault causes.Syntax 4) refl (rw (is_3) refl)

-- a name of PARAMS that comes twice
name_twice : asked (codes "PARAMS" ∷ codes "4" ∷ codes "k" ∷ codes "v" ∷ codes "k" ∷ codes "v" ∷ []) ≡ Err (Syntax 7)
unfolding option_of option_with option_at number_at
name_twice = refused (codes "PARAMS" ∷ codes "4" ∷ codes "k" ∷ codes "v" ∷ codes "k" ∷ codes "v" ∷ []) (Fault causes.Syntax 2) refl (rw (is_4) refl)

-- another dialect
third_dialect : asked (codes "DIALECT" ∷ codes "3" ∷ []) ≡ Err (OutOfScope 4)
unfolding option_of option_with option_at number_at
third_dialect = refused (codes "DIALECT" ∷ codes "3" ∷ []) (Fault causes.OutOfScope 1) refl (rw (is_3) refl)

-- a number that is none
no_time : asked (codes "TIMEOUT" ∷ codes "x" ∷ []) ≡ Err (Syntax 4)
unfolding option_of option_with option_at number_at
no_time = refused (codes "TIMEOUT" ∷ codes "x" ∷ []) (Fault causes.Syntax 1) refl (rw (x_is_none) refl)
