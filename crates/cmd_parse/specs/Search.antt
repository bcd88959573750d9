-- The options of FT.SEARCH behind the index and the query, in any order, each once but FILTER (RediSearch).
use Rattle.std.specs.Prelude.{ℕ, List, [], ◌∷◌, ◌++◌, Bool, true, false, Some, Result, Ok, if◌then◌else◌}
use Rattle.ft_base.specs.Reading.{◌>>=◌, parts_at}
use Rattle.cmd_parse.specs.Filters.{filter_at}
use Rattle.cmd_parse.specs.Given.{Given, is_given, nothing_given}
use Rattle.cmd_parse.specs.OptionNames.{option_of}
use Rattle.cmd_parse.specs.Options.{dialect_at, keys_at, names_at, sort_at, window_at}
use Rattle.cmd_parse.specs.Params.{params_at}
use Rattle.cmd_parse.specs.Words.{Word, Read, fault, number_at}
use Rattle.cmd_parse.specs.declared.option_names.SearchOption.{SearchOption}
use Rattle.cmd_parse.specs.declared.option_names.SearchOption.TheVariants as option
use Rattle.cmd_parse.specs.declared.stop.Cause.TheVariants.{Syntax, OutOfScope}
use Rattle.cmd_parse.specs.declared.stop.Stop.{Stop}

-- TIMEOUT, DIALECT and VERBATIM have no effect.
abbrev pub timeout_at : Given → List Word → Read Given
timeout_at given words = number_at words >>= λ n. Ok (record given { timeout = true }, n.1)

abbrev pub with_dialect_at : Given → List Word → Read Given
with_dialect_at given words = dialect_at words >>= λ n. Ok (record given { dialect = true }, n.1)

abbrev pub return_at : Given → List Word → Read Given
return_at given words = names_at words >>= λ names. Ok (record given { fields = Some names.0 }, names.1)

abbrev pub in_keys_at : Given → List Word → Read Given
in_keys_at given words = keys_at words >>= λ keys. Ok (record given { keys = Some keys.0 }, keys.1)

-- a filter goes behind those before
abbrev pub with_filter_at : ℕ → Given → List Word → Read Given
with_filter_at total given words = filter_at total words >>= λ filter. Ok (record given { filters = given.filters ++ filter.0 ∷ [] }, filter.1)

abbrev pub sort_by_at : ℕ → Given → List Word → Read Given
sort_by_at total given words = sort_at total words >>= λ sort. Ok (record given { sort = Some sort.0 }, sort.1)

abbrev pub limit_at : Given → List Word → Read Given
limit_at given words = window_at words >>= λ window. Ok (record given { window = Some window.0 }, window.1)

abbrev pub with_params_at : Given → List Word → Read Given
with_params_at given words = params_at words >>= λ params. Ok (record given { params = Some params.0 }, params.1)

-- An option's words, behind its name. `from` are the words from the name on, and the command has `total` words.
unfoldable pub option_with : ℕ → SearchOption → Given → List Word → List Word → Read Given
option_with total option.NoContent given from words = Ok (record given { no_content = true }, words)
option_with total option.Verbatim given from words = Ok (record given { verbatim = true }, words)
option_with total option.Timeout given from words = timeout_at given words
option_with total option.Dialect given from words = with_dialect_at given words
option_with total option.Return given from words = return_at given words
option_with total option.InKeys given from words = in_keys_at given words
option_with total option.Filter given from words = with_filter_at total given words
option_with total option.SortBy given from words = sort_by_at total given words
option_with total option.Limit given from words = limit_at given words
option_with total option.Params given from words = with_params_at given words
option_with total option.LeftOut given from words = fault OutOfScope from
option_with total option.Other given from words = fault Syntax from

-- one option behind others
unfoldable pub option_at : ℕ → Given → List Word → Read Given
option_at total given [] = fault Syntax []
option_at total given (word ∷ words) =
    if is_given given (option_of word) then fault Syntax (word ∷ words) else option_with total (option_of word) given (word ∷ words) words

abbrev pub is_at_end : List Word → Bool
is_at_end [] = true
is_at_end (word ∷ words) = false

-- options up to the end of a command of `total` words
abbrev pub options_at : ℕ → List Word → Result Given Stop
options_at total words = parts_at is_at_end (option_at total) nothing_given words >>= λ read. Ok read.0
