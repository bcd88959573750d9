-- What a caller may rely on of what FT.SEARCH asks.
use Rattle.std.specs.Prelude.{◌≡◌, ◌+◌, ◌≤◌, ℕ, List, [], map, slice_get, slice_index_or, Option, Some, None, IfSome}
use Rattle.std.specs.List.{All, Contains, IsDistinct}
use Rattle.std.specs.Str.{bytes_eq}
use Rattle.ft_base.specs.declared.query.Param.{Param}
use Rattle.cmd_parse.specs.Filters.{Filter}
use Rattle.cmd_parse.specs.Options.{Sort, most_rows}
use Rattle.cmd_parse.specs.Searching.{Searching}
use Rattle.cmd_parse.specs.Words.{Word}

-- names, where there are any, are words of the command
abbrev pub AreAmong : List Word → Option (List Word) → Type 0
AreAmong words None = Unit {0}
AreAmong words (Some names) = All (λ name. Contains words name) names

-- a word of the command has this number
abbrev pub IsAt : List Word → ℕ → Word → Type 0
IsAt words at word = slice_get words at ≡ Some word

-- The names of parameters differ, and each name and value is one of the words.
pub record AreParams (words : List Word) (params : List Param) : Type 0 where
  pub distinct : IsDistinct bytes_eq (map (λ (param : Param). param.name) params)
  pub given : All (λ (param : Param). Contains words param.name × Contains words param.value) params

-- What a search asks is made of these words.
pub record IsLawfulSearch (words : List Word) (what : Searching) : Type 0 where
  pub index : what.index ≡ slice_index_or words 1 []
  pub query : what.query ≡ slice_index_or words 2 []
  pub fields : AreAmong words what.fields
  pub keys : AreAmong words what.keys
  -- the field of a filter, or of the order, is the word whose number is kept
  pub filters : All (λ (filter : Filter). IsAt words filter.at filter.field) what.filters
  pub sort : IfSome what.sort (λ (sort : Sort). IsAt words sort.at sort.field)
  pub window : what.offset + what.num ≤ most_rows
  pub params : AreParams words what.params
