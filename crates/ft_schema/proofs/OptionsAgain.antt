-- The options of an index are read back from the words that spell them.
use Rattle.std.proofs.Common.{◌≡◌, ◌<◌, ◌≤◌, ◌^◌, Bool, true, false, List, [], ◌∷◌, ◌++◌, length, map, take, drop, Option, Some, None, Ok, refl, ap, ◌∙◌, arith, length-append, take_at, drop_at}
use Rattle.std.specs.Prelude.{codes}
use Rattle.std.specs.Fmt.{decimal}
use Rattle.std.specs.List.{AllByRecursion}
use Rattle.ft_base.proofs.PartsLaws.{Reads, begins, goes_on, ended}
use Rattle.ft_schema.specs.declared.index_options.IndexOptions.{IndexOptions}
use Rattle.ft_schema.specs.Names.{Word, index_option_of}
use Rattle.ft_schema.specs.Options.{no_options, option_with, option_at, is_at_schema, options_at}
use Rattle.ft_schema.specs.Reading.{Read, count_at, spelled}
use Rattle.ft_schema.specs.Spellable.{IsLower}
use Rattle.ft_schema.specs.Spelling.{counted, prefix_words}
use Rattle.ft_schema.proofs.CountLaws.{count_again}
use Rattle.ft_schema.proofs.Steps.{read_as, reads_on}

-- the prefixes, where there are any
abbrev pub some_of : List Word → Option (List Word)
some_of [] = None
some_of (word ∷ words) = Some (word ∷ words)

abbrev with_prefixes : Option (List Word) → IndexOptions
with_prefixes prefixes = record no_options { prefixes = prefixes }

abbrev pub with_both : Option (List Word) → List Word → IndexOptions
with_both prefixes stops = record no_options { prefixes = prefixes; stops = Some stops }

unchanged : (words : List Word) → map (spelled false) words ≡ words
unchanged [] = refl
unchanged (word ∷ words) = ap (λ (others : List Word). word ∷ others) (unchanged words)

lowered : (words : List Word) → AllByRecursion IsLower words → map (spelled true) words ≡ words
lowered [] lower = refl
lowered (word ∷ words) lower =
    ap (λ (first : Word). first ∷ map (spelled true) words) lower.0
    ∙ ap (λ (others : List Word). word ∷ others) (lowered words lower.1)

-- the words that were counted are kept, and those behind them are left
parted : (build : List Word → IndexOptions) (lower : Bool) (words more : List Word)
    → map (spelled lower) words ≡ words
    → read_as (build (map (spelled lower) (take (length words) (words ++ more)))) (drop (length words) (words ++ more))
    ≡ read_as (build words) more
parted build lower words more same =
    let kept = ap (map (spelled lower)) (take_at words more (length words) refl) ∙ same in
    ap (λ (ws : List Word). read_as (build ws) (drop (length words) (words ++ more))) kept
    ∙ ap (λ (rest : List Word). read_as (build words) rest) (drop_at words more (length words) refl)

prefixes_again : (prefixes more : List Word) → 1 ≤ length prefixes → length prefixes < 2 ^ 63
    → option_at no_options (counted (codes "PREFIX") prefixes ++ more) ≡ Ok (with_prefixes (Some prefixes), more)
unfolding index_option_of option_at option_with
prefixes_again prefixes more some fits =
    reads_on (count_at 1 (decimal (length prefixes) ∷ (prefixes ++ more))) _ (length prefixes, prefixes ++ more) _
    (count_again 1 prefixes more some fits)
    (parted (λ ws. with_prefixes (Some ws)) false prefixes more (unchanged prefixes))

stops_again : (prefixes : Option (List Word)) (stops more : List Word) → AllByRecursion IsLower stops
    → length stops < 2 ^ 63
    → option_at (with_prefixes prefixes) (counted (codes "STOPWORDS") stops ++ more) ≡ Ok (with_both prefixes stops, more)
unfolding index_option_of option_at option_with
stops_again prefixes stops more lower fits =
    reads_on (count_at 0 (decimal (length stops) ∷ (stops ++ more))) _ (length stops, stops ++ more) _
    (count_again 0 stops more (omega arith) fits)
    (parted (λ ws. with_both prefixes ws) true stops more (lowered stops lower))

-- counted words are more than those behind them
shorter : (name : Word) (words more : List Word) → length more < length (counted name words ++ more)
shorter name words more = omega (arith, length-append words more)

-- behind the prefixes the stop words are read, up to SCHEMA
behind_prefixes : (prefixes : Option (List Word)) (stops more : List Word) (whole : Read IndexOptions)
    → AllByRecursion IsLower stops → length stops < 2 ^ 63
    → Reads is_at_schema option_at (with_prefixes prefixes) (counted (codes "STOPWORDS") stops ++ codes "SCHEMA" ∷ more) whole
    → whole ≡ Ok (with_both prefixes stops, codes "SCHEMA" ∷ more)
behind_prefixes prefixes stops more whole lower fits reads =
    let schema : List Word = codes "SCHEMA" ∷ more in
    ended is_at_schema option_at (with_both prefixes stops) schema whole refl
    (goes_on is_at_schema option_at (with_prefixes prefixes) (with_both prefixes stops) (counted (codes "STOPWORDS") stops ++ schema)
    schema whole refl (stops_again prefixes stops schema lower fits) (shorter (codes "STOPWORDS") stops schema) reads)

pub options_again : (prefixes stops more : List Word) → length prefixes < 2 ^ 63 → AllByRecursion IsLower stops
    → length stops < 2 ^ 63
    → options_at (prefix_words prefixes ++ (counted (codes "STOPWORDS") stops ++ codes "SCHEMA" ∷ more))
    ≡ Ok (with_both (some_of prefixes) stops, codes "SCHEMA" ∷ more)
options_again [] stops more few lower fits =
    behind_prefixes None stops more _ lower fits
    (begins is_at_schema option_at no_options (counted (codes "STOPWORDS") stops ++ codes "SCHEMA" ∷ more))
options_again (prefix ∷ prefixes) stops more few lower fits =
    let all : List Word = prefix ∷ prefixes in
    let behind : List Word = counted (codes "STOPWORDS") stops ++ codes "SCHEMA" ∷ more in
    let words : List Word = counted (codes "PREFIX") all ++ behind in
    behind_prefixes (Some all) stops more _ lower fits
    (goes_on is_at_schema option_at no_options (with_prefixes (Some all)) words behind _ refl
    (prefixes_again all behind (omega arith) few) (shorter (codes "PREFIX") all behind)
    (begins is_at_schema option_at no_options words))
