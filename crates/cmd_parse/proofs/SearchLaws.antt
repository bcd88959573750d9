-- What a search asks is made of its words.
use Rattle.std.proofs.Common.{◌≡◌, ◌≤◌, ◌+◌, ℕ, Bool, true, false, cond, List, [], ◌∷◌, ◌++◌, length, Option, Some, None, Result, Ok, Err, refl, subst, arith, IfSome}
use Rattle.std.proofs.lemmas.List.Elements.{All-from_recursion}
use Rattle.std.specs.List.{AllByRecursion}
use Rattle.std.specs.Prelude.{unwrap_or}
use Rattle.ft_base.proofs.PartsLaws.{all_keep}
use Rattle.ft_base.proofs.ReadingLaws.{both}
use Rattle.ft_base.specs.Reading.{parts_at}
use Rattle.ft_base.specs.declared.query.Param.{Param}
use Rattle.ft_schema.proofs.LawfulLaws.{is_ok_of}
use Rattle.cmd_parse.specs.Filters.{Filter, filter_at}
use Rattle.cmd_parse.specs.LawfulSearch.{AreAmong, AreParams, IsAt, IsLawfulSearch}
use Rattle.cmd_parse.specs.OptionNames.{option_of}
use Rattle.cmd_parse.specs.Options.{Sort, dialect_at, keys_at, most_rows, names_at, sort_at, window_at}
use Rattle.cmd_parse.specs.Params.{params_at}
use Rattle.cmd_parse.specs.Given.{Given, is_given, nothing_given}
use Rattle.cmd_parse.specs.Search.{is_at_end, option_at, option_with, options_at}
use Rattle.cmd_parse.specs.Searching.{Searching, first_ten, search, search_with, searching_of}
use Rattle.cmd_parse.specs.Words.{Word, Read, fault, number_at}
use Rattle.cmd_parse.specs.declared.option_names.SearchOption.{SearchOption}
use Rattle.cmd_parse.specs.declared.option_names.SearchOption.TheVariants as option
use Rattle.cmd_parse.specs.declared.stop.Cause.TheVariants.{Syntax}
use Rattle.cmd_parse.specs.declared.stop.Stop.{Stop}
use Rattle.cmd_parse.proofs.BehindLaws.{Behind, behind-next, number_at-Ok}
use Rattle.cmd_parse.proofs.OptionLaws.{dialect_at-Ok, filter_at-Ok, keys_at-Ok, names_at-Ok, sort_at-Ok, window_at-Ok}
use Rattle.cmd_parse.proofs.ParamLaws.{are-no-params, params_at-Ok}

-- what is asked by options is made of the command's words
record AreMade (all : List Word) (fields keys : Option (List Word)) (filters : List Filter) (sort : Option Sort) (window : Option (ℕ × ℕ)) (params : Option (List Param)) : Type 0 where
  pub fields_are : AreAmong all fields
  pub keys_are : AreAmong all keys
  pub filters_are : AllByRecursion (λ (filter : Filter). IsAt all filter.at filter.field) filters
  pub sort_is : IfSome sort (λ (s : Sort). IsAt all s.at s.field)
  pub window_fits : IfSome window (λ w. w.0 + w.1 ≤ most_rows)
  pub params_are : IfSome params (λ ps. AreParams all ps)

abbrev IsMade : List Word → Given → Type 0
IsMade all given = AreMade all given.fields given.keys given.filters given.sort given.window given.params

-- and the words left are the last of the command's
abbrev Holds : List Word → Given → List Word → Type 0
Holds all given words = IsMade all given × Behind all words

all_more : (P : Filter → Type 0) (filters : List Filter) (filter : Filter) → AllByRecursion P filters → P filter → AllByRecursion P (filters ++ filter ∷ [])
all_more P [] filter each here = (here, tt)
all_more P (first ∷ filters) filter each here = (each.0, all_more P filters filter each.1 here)

-- each option keeps it
option_with-Ok : (all : List Word) (name : SearchOption) (given : Given) (from words : List Word) (read : Given × List Word) → Holds all given words
    → option_with (length all) name given from words ≡ Ok read → Holds all read.0 read.1
unfolding option_with
option_with-Ok all option.NoContent given from words read holds e =
    let same : (record given { no_content = true }, words) ≡ read = is_ok_of e in
    subst (λ (r : Given × List Word). Holds all r.0 r.1) same holds
option_with-Ok all option.Verbatim given from words read holds e =
    let same : (record given { verbatim = true }, words) ≡ read = is_ok_of e in
    subst (λ (r : Given × List Word). Holds all r.0 r.1) same holds
option_with-Ok all option.Timeout given from words read holds e =
    let n = both (number_at words) _ _ e in
    let same : (record given { timeout = true }, n.read.1) ≡ read = is_ok_of n.next_is in
    subst (λ (r : Given × List Word). Holds all r.0 r.1) same (holds.0, number_at-Ok all words n.read holds.1 n.first_is)
option_with-Ok all option.Dialect given from words read holds e =
    let n = both (dialect_at words) _ _ e in
    let same : (record given { dialect = true }, n.read.1) ≡ read = is_ok_of n.next_is in
    subst (λ (r : Given × List Word). Holds all r.0 r.1) same (holds.0, dialect_at-Ok all words n.read holds.1 n.first_is)
option_with-Ok all option.Return given from words read holds e =
    let names = both (names_at words) _ _ e in
    let are = names_at-Ok all words names.read holds.1 names.first_is in
    let made = holds.0 in
    let same : (record given { fields = Some names.read.0 }, names.read.1) ≡ read = is_ok_of names.next_is in
    subst (λ (r : Given × List Word). Holds all r.0 r.1) same
    (record { fields_are = are.1; keys_are = made.keys_are; filters_are = made.filters_are; sort_is = made.sort_is; window_fits = made.window_fits; params_are = made.params_are }, are.0)
option_with-Ok all option.InKeys given from words read holds e =
    let keys = both (keys_at words) _ _ e in
    let are = keys_at-Ok all words keys.read holds.1 keys.first_is in
    let made = holds.0 in
    let same : (record given { keys = Some keys.read.0 }, keys.read.1) ≡ read = is_ok_of keys.next_is in
    subst (λ (r : Given × List Word). Holds all r.0 r.1) same
    (record { fields_are = made.fields_are; keys_are = are.1; filters_are = made.filters_are; sort_is = made.sort_is; window_fits = made.window_fits; params_are = made.params_are }, are.0)
option_with-Ok all option.Filter given from words read holds e =
    let filter = both (filter_at (length all) words) _ _ e in
    let is = filter_at-Ok all words filter.read holds.1 filter.first_is in
    let made = holds.0 in
    let same : (record given { filters = given.filters ++ filter.read.0 ∷ [] }, filter.read.1) ≡ read = is_ok_of filter.next_is in
    subst (λ (r : Given × List Word). Holds all r.0 r.1) same (
      record {
        fields_are = made.fields_are;
        keys_are = made.keys_are;
        filters_are = all_more (λ (f : Filter). IsAt all f.at f.field) given.filters filter.read.0 made.filters_are is.1;
        sort_is = made.sort_is;
        window_fits = made.window_fits;
        params_are = made.params_are;
      },
      is.0,
    )
option_with-Ok all option.SortBy given from words read holds e =
    let sort = both (sort_at (length all) words) _ _ e in
    let is = sort_at-Ok all words sort.read holds.1 sort.first_is in
    let made = holds.0 in
    let same : (record given { sort = Some sort.read.0 }, sort.read.1) ≡ read = is_ok_of sort.next_is in
    subst (λ (r : Given × List Word). Holds all r.0 r.1) same
    (record { fields_are = made.fields_are; keys_are = made.keys_are; filters_are = made.filters_are; sort_is = is.1; window_fits = made.window_fits; params_are = made.params_are }, is.0)
option_with-Ok all option.Limit given from words read holds e =
    let window = both (window_at words) _ _ e in
    let fits = window_at-Ok all words window.read holds.1 window.first_is in
    let made = holds.0 in
    let same : (record given { window = Some window.read.0 }, window.read.1) ≡ read = is_ok_of window.next_is in
    subst (λ (r : Given × List Word). Holds all r.0 r.1) same
    (record { fields_are = made.fields_are; keys_are = made.keys_are; filters_are = made.filters_are; sort_is = made.sort_is; window_fits = fits.1; params_are = made.params_are }, fits.0)
option_with-Ok all option.Params given from words read holds e =
    let params = both (params_at words) _ _ e in
    let are = params_at-Ok all words params.read holds.1 params.first_is in
    let made = holds.0 in
    let same : (record given { params = Some params.read.0 }, params.read.1) ≡ read = is_ok_of params.next_is in
    subst (λ (r : Given × List Word). Holds all r.0 r.1) same
    (record { fields_are = made.fields_are; keys_are = made.keys_are; filters_are = made.filters_are; sort_is = made.sort_is; window_fits = made.window_fits; params_are = are.1 }, are.0)
option_with-Ok all option.LeftOut given from words read holds e = absurd (cc)
option_with-Ok all option.Other given from words read holds e = absurd (cc)

option_at-Ok : (all : List Word) (given : Given) (words : List Word) (read : Given × List Word) → Holds all given words → option_at (length all) given words ≡ Ok read → Holds all read.0 read.1
unfolding option_at
option_at-Ok all given [] read holds e = absurd (cc)
option_at-Ok all given (word ∷ words) read holds e = by_test (is_given given (option_of word)) e
  where
    by_test : (again : Bool)
        → cond {A = Read Given} again (fault Syntax (word ∷ words)) (option_with (length all) (option_of word) given (word ∷ words) words) ≡ Ok read
        → Holds all read.0 read.1
    by_test true e = absurd (cc)
    by_test false e = option_with-Ok all (option_of word) given (word ∷ words) words read (holds.0, behind-next all word words holds.1) e

none-made : (all : List Word) → IsMade all nothing_given
none-made all = record { fields_are = tt; keys_are = tt; filters_are = tt; sort_is = tt; window_fits = tt; params_are = tt }

options_at-Ok : (all words : List Word) (given : Given) → Behind all words → options_at (length all) words ≡ Ok given → IsMade all given
options_at-Ok all words given behind e =
    let read = both (parts_at is_at_end (option_at (length all)) nothing_given words) _ _ e in
    let holds = all_keep (Holds all) is_at_end (option_at (length all)) (λ before rest next. option_at-Ok all before rest next) nothing_given words read.read (none-made all, behind) read.first_is in
    let same : read.read.0 ≡ given = is_ok_of read.next_is in
    subst (IsMade all) same holds.0

window-within : (window : Option (ℕ × ℕ)) → IfSome window (λ w. w.0 + w.1 ≤ most_rows) → (unwrap_or window first_ten).0 + (unwrap_or window first_ten).1 ≤ most_rows
window-within None fits = omega arith
window-within (Some window) fits = fits

params-or-none : (all : List Word) (params : Option (List Param)) → IfSome params (λ ps. AreParams all ps) → AreParams all (unwrap_or params [])
params-or-none all None are = are-no-params all
params-or-none all (Some params) are = are

made-lawful : (name index query : Word) (options : List Word) (given : Given) → IsMade (name ∷ index ∷ query ∷ options) given
    → IsLawfulSearch (name ∷ index ∷ query ∷ options) (searching_of index query given)
made-lawful name index query options given made =
    let all : List Word = name ∷ index ∷ query ∷ options in
    record {
      index = refl;
      query = refl;
      fields = made.fields_are;
      keys = made.keys_are;
      filters = All-from_recursion (λ (filter : Filter). IsAt all filter.at filter.field) given.filters made.filters_are;
      sort = made.sort_is;
      window = window-within given.window made.window_fits;
      params = params-or-none all given.params made.params_are;
    }

search_with-lawful : (name index query : Word) (options : List Word) (total : ℕ) (read : Result Given Stop) (what : Searching)
    → ((given : Given) → read ≡ Ok given → IsMade (name ∷ index ∷ query ∷ options) given)
    → search_with total index query read ≡ Ok what → IsLawfulSearch (name ∷ index ∷ query ∷ options) what
search_with-lawful name index query options total (Err stop) what made e = absurd (cc)
search_with-lawful name index query options total (Ok given) what made e =
    let same : searching_of index query given ≡ what = is_ok_of e in
    subst (IsLawfulSearch (name ∷ index ∷ query ∷ options)) same (made-lawful name index query options given (made given refl))

-- what a search asks is lawful
pub search-lawful : (words : List Word) (what : Searching) → search words ≡ Ok what → IsLawfulSearch words what
search-lawful [] what e = absurd (cc)
search-lawful (name ∷ []) what e = absurd (cc)
search-lawful (name ∷ index ∷ []) what e = absurd (cc)
search-lawful (name ∷ index ∷ query ∷ options) what e =
    let all : List Word = name ∷ index ∷ query ∷ options in
    let behind : Behind all options = record { before = name ∷ index ∷ query ∷ []; whole = refl } in
    search_with-lawful name index query options (length all) (options_at (length all) options) what (λ given read. options_at-Ok all options given behind read) e
