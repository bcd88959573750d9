-- The options of FT.SEARCH that were read, and whether one may come again.
use Rattle.std.specs.Prelude.{ℕ, List, [], Bool, false, Option, None, is_some}
use Rattle.ft_base.specs.declared.query.Param.{Param}
use Rattle.cmd_parse.specs.Filters.{Filter}
use Rattle.cmd_parse.specs.Options.{Sort}
use Rattle.cmd_parse.specs.Words.{Word}
use Rattle.cmd_parse.specs.declared.option_names.SearchOption.{SearchOption}
use Rattle.cmd_parse.specs.declared.option_names.SearchOption.TheVariants as option

-- the options that were read: for each whether it was there, or what it gave
pub record Given : Type 0 where
  pub no_content : Bool
  pub verbatim : Bool
  pub timeout : Bool
  pub dialect : Bool
  pub fields : Option (List Word)
  pub keys : Option (List Word)
  pub filters : List Filter
  pub sort : Option Sort
  pub window : Option (ℕ × ℕ)
  pub params : Option (List Param)

abbrev pub nothing_given : Given
nothing_given = record { no_content = false; verbatim = false; timeout = false; dialect = false; fields = None; keys = None; filters = []; sort = None; window = None; params = None }

-- whether an option was there before, which may not come again; FILTER may
abbrev pub is_given : Given → SearchOption → Bool
is_given given option.NoContent = given.no_content
is_given given option.Verbatim = given.verbatim
is_given given option.Timeout = given.timeout
is_given given option.Dialect = given.dialect
is_given given option.Return = is_some given.fields
is_given given option.InKeys = is_some given.keys
is_given given option.Filter = false
is_given given option.SortBy = is_some given.sort
is_given given option.Limit = is_some given.window
is_given given option.Params = is_some given.params
is_given given option.LeftOut = false
is_given given option.Other = false
