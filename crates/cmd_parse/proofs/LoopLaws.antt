-- Reading one part after another, up to an end, as a loop of the code does it.
use Rattle.std.proofs.Common.{◌≡◌, ◌<◌, ◌≤◌, Bool, true, false, List, length, Ok, arith}
use Rattle.ft_base.specs.Reading.{parts_at}
use Rattle.ft_base.proofs.PartsLaws.{Reads, begins, ended, goes_on, stops_there}
use Rattle.cmd_parse.specs.Gives.{Stops}
use Rattle.cmd_parse.specs.Words.{Word, Read}
use Rattle.cmd_parse.specs.declared.stop.Stop.{Stop}
use Rattle.cmd_parse.specs.declared.stop.Stop.TheVariants as stops

-- what is read from here is what is read of all words, of which these are not more
abbrev pub GoesOn : {A : Type 0} → (List Word → Bool) → (A → List Word → Read A) → A → List Word → A → List Word → Type 0
GoesOn ends part first all before words = Reads ends part before words (parts_at ends part first all) × (length words ≤ length all)

pub from-all : {A : Type 0} (ends : List Word → Bool) (part : A → List Word → Read A) (first before : A) (all words : List Word) → before ≡ first → words ≡ all
    → GoesOn ends part first all before words
from-all ends part first before all words none same = rw (none, same) (begins ends part first all, omega arith)

pub next-part : {A : Type 0} (ends : List Word → Bool) (part : A → List Word → Read A) (first : A) (all : List Word) (before next : A) (words rest : List Word) → ends words ≡ false
    → part before words ≡ Ok (next, rest) → length rest < length words → GoesOn ends part first all before words → GoesOn ends part first all next rest
next-part ends part first all before next words rest more read shorter here =
    (goes_on ends part before next words rest _ more read shorter here.0, omega (arith, shorter, here.1))

-- where the code of a part stops, reading stops
pub stops-so : {A : Type 0} (ends : List Word → Bool) (part : A → List Word → Read A) (first : A) (all : List Word) (before : A) (words : List Word) (stop : Stop) → ends words ≡ false
    → Stops stop (part before words) → GoesOn ends part first all before words → Stops stop (parts_at ends part first all)
stops-so ends part first all before words stops.NoMemory more read here = tt
stops-so ends part first all before words (stops.Fault cause left) more read here =
    stops_there ends part before words _ (stops.Fault cause left) more read here.0

pub all-read : {A : Type 0} (ends : List Word → Bool) (part : A → List Word → Read A) (first : A) (all : List Word) (before : A) (words : List Word) → ends words ≡ true
    → GoesOn ends part first all before words → parts_at ends part first all ≡ Ok (before, words)
all-read ends part first all before words done here = ended ends part before words _ done here.0
