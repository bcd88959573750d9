-- Words behind others in a command, and what each reader says of the words behind what it reads.
use Rattle.std.proofs.Common.{◌≡◌, ◌+◌, ◌-◌, ℕ, zero, suc, ℤ, pos, negsuc, Bool, true, false, cond, List, [], ◌∷◌, ◌++◌, length, take, drop, Option, Some, None, Ok, refl, sym, ap, subst, ◌∙◌, arith, append_assoc, length-append, take-append-drop}
use Rattle.std.specs.List.{AllByRecursion, Contains}
use Rattle.std.specs.Prelude.{nat_le, slice_get}
use Rattle.std.proofs.lemmas.List.Elements.{Contains-append_left, Contains-append_right}
use Rattle.ft_base.proofs.ReadingLaws.{both}
use Rattle.ft_base.specs.Number.{int_of}
use Rattle.ft_schema.proofs.LawfulLaws.{is_ok_of}
use Rattle.cmd_parse.specs.LawfulSearch.{IsAt}
use Rattle.cmd_parse.specs.Words.{Word, Read, fault, word_at, number_at, number_with, so_many, counted_at}
use Rattle.cmd_parse.specs.declared.stop.Cause.TheVariants.{Syntax}

-- the words from some place on
pub record Behind (all words : List Word) : Type 0 where
  pub before : List Word
  pub whole : all ≡ before ++ words

pub behind-next : (all : List Word) (word : Word) (words : List Word) → Behind all (word ∷ words) → Behind all words
behind-next all word words behind = record {
  before = behind.before ++ word ∷ [];
  whole = behind.whole ∙ sym (append_assoc behind.before (word ∷ []) words);
}

pub behind-drop : (n : ℕ) (all words : List Word) → Behind all words → Behind all (drop n words)
behind-drop zero all words behind = behind
behind-drop (suc n) all [] behind = behind
behind-drop (suc n) all (word ∷ words) behind = behind-drop n all words (behind-next all word words behind)

-- all of the one are among the other
abbrev pub Among : List Word → List Word → Type 0
Among words all = (word : Word) → Contains words word → Contains all word

pub among-behind : (all words : List Word) → Behind all words → Among words all
among-behind all words behind word there =
    subst (λ ws. Contains ws word) (sym behind.whole) (Contains-append_right behind.before words word there)

pub among-take : (n : ℕ) (all words : List Word) → Among words all → Among (take n words) all
among-take n all words among word there =
    among word (subst (λ ws. Contains ws word) (take-append-drop n words) (Contains-append_left (take n words) (drop n words) word there))

pub among-next : (all : List Word) (word : Word) (words : List Word) → Among (word ∷ words) all → Among words all
among-next all word words among other there = among other (Contains-append_right (word ∷ []) words other there)

pub among-here : (all : List Word) (word : Word) (words : List Word) → Among (word ∷ words) all → Contains all word
among-here all word words among = among word (0, omega arith, refl)

pub each-among : (all words : List Word) → Among words all → AllByRecursion (λ word. Contains all word) words
each-among all [] among = tt
each-among all (word ∷ words) among = (among-here all word words among, each-among all words (among-next all word words among))

-- a word stands at the number of those before it
stands : (before : List Word) (word : Word) (words : List Word) → slice_get (before ++ word ∷ words) (length before) ≡ Some word
stands [] word words = refl
stands (other ∷ before) word words = stands before word words

pub is-at : (all : List Word) (word : Word) (words : List Word) → Behind all (word ∷ words) → IsAt all (length all - length (word ∷ words)) word
is-at all word words behind =
    let sum : length all ≡ length behind.before + length (word ∷ words) = ap length behind.whole ∙ length-append behind.before (word ∷ words) in
    let place : length all - length (word ∷ words) ≡ length behind.before = omega (arith, sum) in
    ap (slice_get all) place ∙ (ap (λ ws. slice_get ws (length behind.before)) behind.whole ∙ stands behind.before word words)

pub word_at-Ok : (all words : List Word) (read : Word × List Word) → Behind all words → word_at words ≡ Ok read → Behind all read.1 × IsAt all (length all - length words) read.0
word_at-Ok all [] read behind e = absurd (cc)
word_at-Ok all (word ∷ words) read behind e =
    let same : (word, words) ≡ read = is_ok_of e in
    subst (λ (r : Word × List Word). Behind all r.1 × IsAt all (length all - length (word ∷ words)) r.0) same (behind-next all word words behind, is-at all word words behind)

number_with-Ok : (all : List Word) (found : Option ℤ) (from words : List Word) (read : ℕ × List Word) → Behind all words → number_with found from words ≡ Ok read → Behind all read.1
number_with-Ok all None from words read behind e = absurd (cc)
number_with-Ok all (Some (negsuc n)) from words read behind e = absurd (cc)
number_with-Ok all (Some (pos n)) from words read behind e =
    let same : (n, words) ≡ read = is_ok_of e in
    subst (λ (r : ℕ × List Word). Behind all r.1) same behind

pub number_at-Ok : (all words : List Word) (read : ℕ × List Word) → Behind all words → number_at words ≡ Ok read → Behind all read.1
unfolding number_at
number_at-Ok all [] read behind e = absurd (cc)
number_at-Ok all (word ∷ words) read behind e = number_with-Ok all (int_of word) (word ∷ words) words read (behind-next all word words behind) e

so_many-Ok : (all from : List Word) (count : ℕ) (words : List Word) (read : List Word × List Word) → Behind all words → so_many from count words ≡ Ok read → Behind all read.1 × Among read.0 all
so_many-Ok all from count words read behind e = by_test (nat_le count (length words)) e
  where
    by_test : (there : Bool) → cond {A = Read (List Word)} there (Ok (take count words, drop count words)) (fault Syntax from) ≡ Ok read → Behind all read.1 × Among read.0 all
    by_test true e =
        let same : (take count words, drop count words) ≡ read = is_ok_of e in
        subst (λ (r : List Word × List Word). Behind all r.1 × Among r.0 all) same (behind-drop count all words behind, among-take count all words (among-behind all words behind))
    by_test false e = absurd (cc)

pub counted_at-Ok : (all words : List Word) (read : List Word × List Word) → Behind all words → counted_at words ≡ Ok read → Behind all read.1 × Among read.0 all
counted_at-Ok all words read behind e =
    let count = both (number_at words) _ _ e in
    so_many-Ok all words count.read.0 count.read.1 read (number_at-Ok all words count.read behind count.first_is) count.next_is
