-- What the options of an index say can be spelled.
use Rattle.std.proofs.Common.{◌≡◌, ℕ, ◌<◌, ◌^◌, Bool, true, false, cond, List, [], ◌∷◌, length, map, take, drop, unwrap_or, Option, Some, Ok, refl, ap, subst, ◌∙◌, arith, length-take}
use Rattle.std.specs.Prelude.{codes}
use Rattle.std.specs.Char.{to_ascii_lowercase}
use Rattle.std.specs.List.{AllByRecursion, list_all}
use Rattle.std.specs.Str.{bytes_eq, str_to_ascii_lowercase}
use Rattle.std.proofs.lemmas.Bool.{and_parts}
use Rattle.std.proofs.lemmas.List.{length-map}
use Rattle.std.proofs.lemmas.Slice.Eq.{bytes_eq-Decides}
use Rattle.std.proofs.lemmas.Str.Ascii.{lowercase-lowercase}
use Rattle.ft_base.specs.Names.{is_name}
use Rattle.ft_base.proofs.ReadingLaws.{both}
use Rattle.ft_base.proofs.PartsLaws.{all_keep}
use Rattle.ft_schema.specs.declared.fault.Cause.TheVariants.{BadOption, OutOfScope}
use Rattle.ft_schema.specs.declared.index_options.IndexOptions.{IndexOptions}
use Rattle.ft_schema.specs.declared.names.IndexOption.{IndexOption}
use Rattle.ft_schema.specs.declared.names.IndexOption.TheVariants.{On, Prefix, StopWords, MaxTextFields, NoHighlights, NoFrequencies, Score, LeftOut, Other}
use Rattle.ft_schema.specs.Names.{Word, index_option_of}
use Rattle.ft_schema.specs.Options.{no_options, has_option, option_with, option_at, is_at_schema, options_at}
use Rattle.ft_schema.specs.Reading.{Read, fault, word_at, count_at, weight_at, spelled}
use Rattle.ft_schema.specs.Schema.{default_stops}
use Rattle.ft_schema.specs.Spellable.{IsLower}
use Rattle.ft_schema.proofs.CountLaws.{count-fits}
use Rattle.ft_schema.proofs.LawfulLaws.{is_ok_of}
use Rattle.ft_schema.proofs.Steps.{read_as, not_refused}

-- what the prefixes and the stop words are like, given or not
pub record CanBeSaid (prefixes stops : Option (List Word)) : Type 0 where
  pub prefix_count : length (unwrap_or prefixes []) < 2 ^ 63
  pub stop_count : length (unwrap_or stops default_stops) < 2 ^ 63
  pub lower : AllByRecursion IsLower (unwrap_or stops default_stops)

abbrev pub Holds : IndexOptions → Type 0
Holds given = CanBeSaid given.prefixes given.stops

abbrev is_lower : Word → Bool
is_lower word = bytes_eq (str_to_ascii_lowercase word) word

lower_by_test : (words : List Word) → list_all is_lower words ≡ true → AllByRecursion IsLower words
lower_by_test [] e = tt
lower_by_test (word ∷ words) e =
    let parts = and_parts (is_lower word) (list_all is_lower words) e in
    ((bytes_eq-Decides (str_to_ascii_lowercase word) word).0 parts.0, lower_by_test words parts.1)

-- without options
none-hold : Holds no_options
none-hold = record { prefix_count = omega arith; stop_count = omega arith; lower = lower_by_test default_stops refl }

-- what is lowered is lower
lowered_twice : (word : Word) → IsLower (str_to_ascii_lowercase word)
lowered_twice [] = refl
lowered_twice (b ∷ bytes) =
    ap (λ (c : ℕ). c ∷ str_to_ascii_lowercase (str_to_ascii_lowercase bytes)) (lowercase-lowercase b)
    ∙ ap (λ (others : Word). to_ascii_lowercase b ∷ others) (lowered_twice bytes)

lowered_all : (words : List Word) → AllByRecursion IsLower (map (spelled true) words)
lowered_all [] = tt
lowered_all (word ∷ words) = (lowered_twice word, lowered_all words)

few : (lower : Bool) (n : ℕ) (words : List Word) → n < 2 ^ 63 → length (map (spelled lower) (take n words)) < 2 ^ 63
few lower n words fits = omega (arith, length-map (take n words) (spelled lower), length-take n words, fits)

-- what these options are read as
answered : (after : IndexOptions) (rest : List Word) (read : IndexOptions × List Word) → Holds after
    → read_as after rest ≡ Ok read → Holds read.0
answered after rest read h e = subst (λ (r : IndexOptions × List Word). Holds r.0) (is_ok_of e) h

option-holds : (named : IndexOption) (given : IndexOptions) (from words : List Word) (read : IndexOptions × List Word)
    → Holds given → option_with named given from words ≡ Ok read → Holds read.0
unfolding option_with
option-holds On given from words read h e =
    let next = both (word_at words) _ _ e in
    by_test (is_name next.read.0 (codes "HASH")) next.read.1 next.next_is
  where
    by_test : (hash : Bool) (rest : List Word)
        → cond {A = Read IndexOptions} hash (Ok (record given { on_hash = true }, rest)) (fault OutOfScope words) ≡ Ok read
        → Holds read.0
    by_test true rest e = answered (record given { on_hash = true }) rest read h e
    by_test false rest e = absurd (cc)
option-holds Prefix given from words read h e =
    let count = both (count_at 1 words) _ _ e in
    let n = count.read.0 in
    let rest = count.read.1 in
    answered (record given { prefixes = Some (map (spelled false) (take n rest)) }) (drop n rest) read
    (record {
      prefix_count = few false n rest (count-fits 1 words count.read count.first_is);
      stop_count = h.stop_count;
      lower = h.lower;
    })
    count.next_is
option-holds StopWords given from words read h e =
    let count = both (count_at 0 words) _ _ e in
    let n = count.read.0 in
    let rest = count.read.1 in
    answered (record given { stops = Some (map (spelled true) (take n rest)) }) (drop n rest) read
    (record {
      prefix_count = h.prefix_count;
      stop_count = few true n rest (count-fits 0 words count.read count.first_is);
      lower = lowered_all (take n rest);
    })
    count.next_is
option-holds MaxTextFields given from words read h e = answered (record given { max_text_fields = true }) words read h e
option-holds NoHighlights given from words read h e = answered (record given { no_highlights = true }) words read h e
option-holds NoFrequencies given from words read h e = answered (record given { no_frequencies = true }) words read h e
option-holds Score given from words read h e =
    let rest = both (weight_at words) _ _ e in
    answered (record given { score = true }) rest.read read h rest.next_is
option-holds LeftOut given from words read h e = absurd (cc)
option-holds Other given from words read h e = absurd (cc)

one-holds : (given : IndexOptions) (words : List Word) (read : IndexOptions × List Word) → Holds given
    → option_at given words ≡ Ok read → Holds read.0
unfolding option_at
one-holds given [] read h e = absurd (cc)
one-holds given (word ∷ words) read h e =
    option-holds (index_option_of word) given (word ∷ words) words read h
    (not_refused (has_option given (index_option_of word)) BadOption (word ∷ words) _ read e)

pub options-hold : (words : List Word) (read : IndexOptions × List Word) → options_at words ≡ Ok read → Holds read.0
options-hold words read e =
    all_keep (λ given rest. Holds given) is_at_schema option_at one-holds no_options words read none-hold e
