-- Reading the options of a search one after another, as the code's loop does it.
use Rattle.std.proofs.Common.{◌≡◌, ◌<◌, ◌≤◌, ℕ, true, false, List, [], ◌∷◌, length, Ok, ap, arith}
use Rattle.ft_base.specs.Reading.{◌>>=◌, parts_at}
use Rattle.ft_base.proofs.PartsLaws.{Reads, begins, ended, goes_on, stops_there}
use Rattle.cmd_parse.specs.Gives.{Stops}
use Rattle.cmd_parse.specs.Given.{Given, nothing_given}
use Rattle.cmd_parse.specs.Search.{is_at_end, option_at, options_at}
use Rattle.cmd_parse.specs.Words.{Word, Read}
use Rattle.cmd_parse.specs.declared.stop.Stop.{Stop}
use Rattle.cmd_parse.specs.declared.stop.Stop.TheVariants as stops

-- what is read from here is what is read of all words, of which these are not more
abbrev pub GoesOn : ℕ → List Word → Given → List Word → Type 0
GoesOn total all given words =
    Reads is_at_end (option_at total) given words (parts_at is_at_end (option_at total) nothing_given all)
    × (length words ≤ length all)

-- there is a word before the end
pub some-left : (words : List Word) → is_at_end words ≡ false → 0 < length words
some-left [] more = absurd (cc)
some-left (word ∷ words) more = omega arith

pub from-all : (total : ℕ) (given : Given) (all words : List Word) → given ≡ nothing_given → words ≡ all → GoesOn total all given words
from-all total given all words none same = rw (none, same) (begins is_at_end (option_at total) nothing_given all, omega arith)

pub next-option : (total : ℕ) (all : List Word) (given next : Given) (words rest : List Word) → is_at_end words ≡ false → option_at total given words ≡ Ok (next, rest)
    → length rest < length words → GoesOn total all given words → GoesOn total all next rest
next-option total all given next words rest more read shorter here =
    (goes_on is_at_end (option_at total) given next words rest _ more read shorter here.0, omega (arith, shorter, here.1))

-- where the code of an option stops, reading stops
pub stops-so : (total : ℕ) (all : List Word) (given : Given) (words : List Word) (stop : Stop) → is_at_end words ≡ false → Stops stop (option_at total given words)
    → GoesOn total all given words → Stops stop (options_at total all)
stops-so total all given words stops.NoMemory more read here = tt
stops-so total all given words (stops.Fault cause left) more read here =
    ap (λ (r : Read Given). r >>= λ x. Ok x.0) (stops_there is_at_end (option_at total) given words _ (stops.Fault cause left) more read here.0)

pub all-read : (total : ℕ) (all : List Word) (given : Given) (words : List Word) → is_at_end words ≡ true → GoesOn total all given words → options_at total all ≡ Ok given
all-read total all given words done here =
    ap (λ (r : Read Given). r >>= λ x. Ok x.0) (ended is_at_end (option_at total) given words _ done here.0)
