-- PARAMS of FT.SEARCH: names and their values in turn, and no name twice (RediSearch).
use Rattle.std.specs.Prelude.{ℕ, List, [], ◌∷◌, length, drop, ◌%◌, ◌+◌, ◌==◌, Option, Some, None, Ok, if◌then◌else◌}
use Rattle.std.specs.List.{list_any}
use Rattle.std.specs.Str.{bytes_eq}
use Rattle.ft_base.specs.Reading.{◌>>=◌}
use Rattle.ft_base.specs.declared.query.Param.{Param}
use Rattle.cmd_parse.specs.Words.{Word, Read, fault, counted_at}
use Rattle.cmd_parse.specs.declared.stop.Cause.TheVariants.{Syntax}

-- the parameters that words give, a name and its value in turn
abbrev pub params_of : List Word → List Param
params_of (name ∷ value ∷ words) = record { name = name; value = value } ∷ params_of words
params_of _ = []

-- The first word that repeats a name, by its place: the names before are given, and the next name is at place `at`.
abbrev pub first_repeat : ℕ → List Word → List Param → Option ℕ
first_repeat at before [] = None
first_repeat at before (param ∷ params) =
    if list_any (bytes_eq param.name) before then Some at else first_repeat (at + 2) (param.name ∷ before) params

-- the parameters, where no word repeats a name
abbrev pub unless_repeated : Option ℕ → List Word → List Param → List Word → Read (List Param)
unless_repeated None from params words = Ok (params, words)
unless_repeated (Some at) from params words = fault Syntax (drop at from)

-- the parameters of an even number of words; the first of them is at place 1, behind their number
abbrev pub params_with : List Word → List Word → List Word → Read (List Param)
params_with from given words =
    if length given % 2 == 0 then unless_repeated (first_repeat 1 [] (params_of given)) from (params_of given) words else fault Syntax from

abbrev pub params_at : List Word → Read (List Param)
params_at words = counted_at words >>= λ given. params_with words given.0 given.1
