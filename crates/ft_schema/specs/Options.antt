-- The options of an index, which stand before the word SCHEMA (RediSearch, FT.CREATE).
use Rattle.std.specs.Prelude.{ℕ, List, [], ◌∷◌, map, take, drop, Bool, true, false, codes, Some, None, is_some, Ok, if◌then◌else◌}
use Rattle.ft_schema.specs.declared.fault.Cause.TheVariants.{BadOption, OutOfScope}
use Rattle.ft_schema.specs.declared.names.IndexOption.{IndexOption}
use Rattle.ft_schema.specs.declared.names.IndexOption.TheVariants.{On, Prefix, StopWords, MaxTextFields, NoHighlights, NoFrequencies, Score, LeftOut, Other}
use Rattle.ft_schema.specs.declared.index_options.IndexOptions.{IndexOptions}
use Rattle.ft_schema.specs.Names.{Word, index_option_of}
use Rattle.ft_base.specs.Names.{is_name}
use Rattle.ft_base.specs.Reading.{◌>>=◌, parts_at}
use Rattle.ft_schema.specs.Reading.{Read, fault, word_at, count_at, weight_at, spelled}

-- no option yet
abbrev pub no_options : IndexOptions
no_options = record { on_hash = false; prefixes = None; stops = None; max_text_fields = false; no_highlights = false; no_frequencies = false; score = false }

-- whether an option was there before
abbrev pub has_option : IndexOptions → IndexOption → Bool
has_option given On = given.on_hash
has_option given Prefix = is_some given.prefixes
has_option given StopWords = is_some given.stops
has_option given MaxTextFields = given.max_text_fields
has_option given NoHighlights = given.no_highlights
has_option given NoFrequencies = given.no_frequencies
has_option given Score = given.score
has_option given LeftOut = false
has_option given Other = false

-- ON: what is indexed, which is hashes alone
abbrev pub on_at : IndexOptions → List Word → Read IndexOptions
on_at given words = word_at words >>= λ next. if is_name next.0 (codes "HASH") then Ok (record given { on_hash = true }, next.1) else fault OutOfScope words

-- so many prefixes, as they are given
abbrev pub prefixes_with : IndexOptions → ℕ → List Word → Read IndexOptions
prefixes_with given number words = Ok (record given { prefixes = Some (map (spelled false) (take number words)) }, drop number words)

-- PREFIX: at least one beginning of the keys that are taken
abbrev pub prefixes_at : IndexOptions → List Word → Read IndexOptions
prefixes_at given words = count_at 1 words >>= λ count. prefixes_with given count.0 count.1

-- so many stop words, lowered
abbrev pub stops_with : IndexOptions → ℕ → List Word → Read IndexOptions
stops_with given number words = Ok (record given { stops = Some (map (spelled true) (take number words)) }, drop number words)

-- STOPWORDS: the words that are neither indexed nor looked for
abbrev pub stops_at : IndexOptions → List Word → Read IndexOptions
stops_at given words = count_at 0 words >>= λ count. stops_with given count.0 count.1

-- SCORE: a weight, without effect
abbrev pub score_at : IndexOptions → List Word → Read IndexOptions
score_at given words = weight_at words >>= λ rest. Ok (record given { score = true }, rest)

-- The words behind an option's name.
unfoldable pub option_with : IndexOption → IndexOptions → List Word → List Word → Read IndexOptions
option_with On given from words = on_at given words
option_with Prefix given from words = prefixes_at given words
option_with StopWords given from words = stops_at given words
option_with MaxTextFields given from words = Ok (record given { max_text_fields = true }, words)
option_with NoHighlights given from words = Ok (record given { no_highlights = true }, words)
option_with NoFrequencies given from words = Ok (record given { no_frequencies = true }, words)
option_with Score given from words = score_at given words
option_with LeftOut given from words = fault OutOfScope from
option_with Other given from words = fault BadOption from

-- An option behind others. None may come twice.
unfoldable pub option_at : IndexOptions → List Word → Read IndexOptions
option_at given [] = fault BadOption []
option_at given (word ∷ words) =
    if has_option given (index_option_of word) then fault BadOption (word ∷ words) else option_with (index_option_of word) given (word ∷ words) words

-- whether SCHEMA comes next
abbrev pub is_at_schema : List Word → Bool
is_at_schema [] = false
is_at_schema (word ∷ words) = is_name word (codes "SCHEMA")

-- The options up to SCHEMA. It is missing where the words end before.
abbrev pub options_at : List Word → Read IndexOptions
options_at words = parts_at is_at_schema option_at no_options words
