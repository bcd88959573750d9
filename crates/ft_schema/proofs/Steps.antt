-- Reading on, step by step.
use Rattle.std.proofs.Common.{◌≡◌, ℕ, zero, suc, ◌<◌, Bool, true, false, cond, List, length, Result, Ok, ap, subst, refl, ◌∙◌, arith}
use Rattle.ft_base.specs.Reading.{◌>>=◌, parts_in, parts_at}
use Rattle.ft_base.proofs.ReadingLaws.{both}
use Rattle.ft_schema.specs.declared.fault.Cause.{Cause}
use Rattle.ft_schema.specs.Names.{Word}
use Rattle.ft_schema.specs.Reading.{Read, fault}
use Rattle.ft_schema.proofs.LawfulLaws.{is_ok_of}

-- what was read, and the words after it
abbrev pub read_as : {A : Type 0} → A → List Word → Read A
read_as a words = Ok (a, words)

-- where one reader reads and the next reads on from there, both do
pub reads_on : {A B E : Type 0} (first : Result A E) (next : A → Result B E) (read : A) (answer : Result B E)
    → first ≡ Ok read → next read ≡ answer → (first >>= next) ≡ answer
reads_on first next read answer e f = ap (λ r. r >>= next) e ∙ f

-- where a reader is not refused, it reads
pub not_refused : {A : Type 0} (refused : Bool) (cause : Cause) (from : List Word) (reading : Read A) (read : A × List Word)
    → cond refused (fault cause from) reading ≡ Ok read → reading ≡ Ok read
not_refused true cause from reading read e = absurd (cc)
not_refused false cause from reading read e = e

-- where each part takes a word at least, reading goes on to the end
ends_in : (A : Type 0) (ends : List Word → Bool) (part : A → List Word → Read A)
    → ((before : A) (words : List Word) (read : A × List Word) → part before words ≡ Ok read → length read.1 < length words)
    → (n : ℕ) (before : A) (words : List Word) (read : A × List Word) → length words < n
    → parts_in ends part n before words ≡ Ok read → ends read.1 ≡ true
ends_in A ends part shorter zero before words read enough e = absurd (omega (arith, enough))
ends_in A ends part shorter (suc n) before words read enough e =
    by_end (λ after rest. ends_in A ends part shorter n after rest read) (ends words) refl e
  where
    by_end : ((after : A) (rest : List Word) → length rest < n → parts_in ends part n after rest ≡ Ok read → ends read.1 ≡ true)
        → (end : Bool) → ends words ≡ end
        → cond {A = Read A} end (Ok (before, words)) (part before words >>= λ x. parts_in ends part n x.0 x.1) ≡ Ok read
        → ends read.1 ≡ true
    by_end others true done e = subst (λ (r : A × List Word). ends r.1 ≡ true) (is_ok_of e) done
    by_end others false done e =
        let x = both (part before words) _ _ e in
        let less = shorter before words x.read x.first_is in
        others x.read.0 x.read.1 (omega (arith, less, enough)) x.next_is

pub ended_so : (A : Type 0) (ends : List Word → Bool) (part : A → List Word → Read A)
    → ((before : A) (words : List Word) (read : A × List Word) → part before words ≡ Ok read → length read.1 < length words)
    → (before : A) (words : List Word) (read : A × List Word) → parts_at ends part before words ≡ Ok read → ends read.1 ≡ true
unfolding parts_at
ended_so A ends part shorter before words read e =
    ends_in A ends part shorter (suc (length words)) before words read (omega arith) e
