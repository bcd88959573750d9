-- Each command of a load is one that the wire can carry; and the first of them.
use Rattle.std.proofs.Common.{◌≡◌, ℕ, zero, suc, ◌+◌, ◌*◌, ◌^◌, ◌<◌, ◌≤◌, Bool, true, false, List, [], ◌∷◌, ◌++◌, length, refl, ap, arith}
use Rattle.std.specs.Prelude.{◌/◌, ◌%◌, ◌==◌, codes, if◌then◌else◌, sum_by, take}
use Rattle.std.specs.List.{All, AllByRecursion}
use Rattle.std.specs.Fmt.{decimal, digits}
use Rattle.std.proofs.lemmas.Fmt.{length-decimal-le}
use Rattle.std.proofs.lemmas.List.{length-append}
use Rattle.std.proofs.lemmas.List.Sums.{sum_by-cons}
use Rattle.std.proofs.lemmas.List.Elements.{All-from_recursion}
use Rattle.ft_base.specs.declared.limits.TheConstants.{MAX_WORD_BYTES}
use Rattle.rand_pcg.specs.Lcg.{Lcg}
use Rattle.resp_wire.specs.Request.{IsCommand}
use Rattle.resp_wire.specs.Stream.{Command}
use Rattle.load_maker.specs.Load.{begun, collecting, counting, creating, deleting, documents, draw, drawn, grouping, key_of, last_commands, load, searching, setting, sorting, text_of, text_words, word_of}
use Rattle.load_maker.proofs.StepLaws.{behind, text_eight}

-- The first three commands of seed 7.
pub first_three : (docs : ℕ) → 2 ≤ docs → take 3 (load 7 docs) ≡ creating
    ∷ setting 1 (codes "w10 w30 w32 w31 w21 w51 w23 w15") 7 96
    ∷ setting 2 (codes "w19 w27 w28 w61 w23 w35 w38 w23") 5 25 ∷ []
unfolding load documents drawn text_words draw digits
first_three zero some = absurd (omega (arith, some))
first_three (suc zero) some = absurd (omega (arith, some))
first_three (suc (suc docs)) some = refl

drawn_below : (most : ℕ) (g : Lcg) → 0 < most → (draw most g).0 < most
unfolding draw
drawn_below most g some = omega arith

digits_few : (n : ℕ) → n < 2 ^ 32 → length (decimal n) ≤ 10
digits_few n few = length-decimal-le 10 n (omega arith) (omega arith) (omega arith)

-- words behind spaces are short
behind_short : (n : ℕ) (g : Lcg) → length (behind (text_words n g).0) ≤ 12 * n
unfolding text_words
behind_short zero g = omega arith
behind_short (suc n) g =
    let few : length (decimal (draw 64 g).0) ≤ 10 = digits_few (draw 64 g).0 (omega (arith, drawn_below 64 g (omega arith))) in
    omega (arith, length-append (32 ∷ word_of (draw 64 g).0) (behind (text_words n (draw 64 g).1).0), behind_short n (draw 64 g).1)

text_short : (g : Lcg) → length (text_of (text_words 8 g).0) ≤ 95
text_short g =
    let few : length (decimal (draw 64 g).0) ≤ 10 = digits_few (draw 64 g).0 (omega (arith, drawn_below 64 g (omega arith))) in
    let all : length (text_of (text_words 8 g).0) ≡ length (word_of (draw 64 g).0 ++ behind (text_words 7 (draw 64 g).1).0) = ap length (text_eight g) in
    omega (arith, all, few, length-append (word_of (draw 64 g).0) (behind (text_words 7 (draw 64 g).1).0), behind_short 7 (draw 64 g).1)

-- a command of short words is one that the wire can carry
short_command : (words : Command) → 0 < length words → length words ≤ 11 → AllByRecursion (λ (word : List ℕ). length word ≤ 95) words → IsCommand words
short_command words some few short = record {
  named = some;
  limits = record {
    number = omega (arith, few);
    each = All-from_recursion (λ (word : List ℕ). length word ≤ MAX_WORD_BYTES) words (each words short);
    total = omega (arith, few, total words short);
  };
}
  where
    each : (words : Command) → AllByRecursion (λ (word : List ℕ). length word ≤ 95) words → AllByRecursion (λ (word : List ℕ). length word ≤ MAX_WORD_BYTES) words
    each [] short = tt
    each (word ∷ words) short = (omega (arith, short.0), each words short.1)

    total : (words : Command) → AllByRecursion (λ (word : List ℕ). length word ≤ 95) words → sum_by length words ≤ 95 * length words
    total [] short = omega arith
    total (word ∷ words) short = omega (arith, short.0, total words short.1, sum_by-cons length word words)

setting_is : (i : ℕ) (text : List ℕ) (tag number : ℕ) → i < 2 ^ 32 → tag < 2 ^ 32 → number < 2 ^ 32 → length text ≤ 95 → IsCommand (setting i text tag number)
setting_is i text tag number few_i few_tag few_number short =
    let a : length (decimal i) ≤ 10 = digits_few i few_i in
    let b : length (decimal tag) ≤ 10 = digits_few tag few_tag in
    let c : length (decimal number) ≤ 10 = digits_few number few_number in
    short_command (setting i text tag number) (omega arith) (omega arith)
    (omega arith, (omega (arith, a), (omega arith, (short, (omega arith, (omega (arith, b), (omega arith, (omega (arith, c), tt))))))))

drawn_is : (i : ℕ) (g : Lcg) → i < 2 ^ 32 → IsCommand (setting i (drawn g).text (drawn g).tag (drawn g).number)
unfolding drawn
drawn_is i g few =
    let words = text_words 8 g in
    setting_is i (text_of (text_words 8 g).0) (draw 8 words.1).0 (draw 1000 (draw 8 words.1).1).0 few
    (omega (arith, drawn_below 8 words.1 (omega arith))) (omega (arith, drawn_below 1000 (draw 8 words.1).1 (omega arith))) (text_short g)

key_is : (i : ℕ) → i < 2 ^ 32 → IsCommand (codes "DEL" ∷ key_of i ∷ [])
key_is i few =
    let a : length (decimal i) ≤ 10 = digits_few i few in
    short_command (codes "DEL" ∷ key_of i ∷ []) (omega arith) (omega arith) (omega arith, (omega (arith, a), tt))

deleting_by : (b : Bool) (i : ℕ) → i < 2 ^ 32 → AllByRecursion IsCommand (if b then (codes "DEL" ∷ key_of i ∷ []) ∷ [] else [])
deleting_by true i few = (key_is i few, tt)
deleting_by false i few = tt

-- commands behind others
both_are : (front back : List Command) → AllByRecursion IsCommand front → AllByRecursion IsCommand back → AllByRecursion IsCommand (front ++ back)
both_are [] back first second = second
both_are (words ∷ front) back first second = (first.0, both_are front back first.1 second)

documents_are : (n i : ℕ) (g : Lcg) → i + n < 2 ^ 32 → AllByRecursion IsCommand (documents n i g)
unfolding documents
documents_are zero i g few = tt
documents_are (suc n) i g few = (
  drawn_is i g (omega (arith, few)),
  both_are (deleting i) (documents n (i + 1) (drawn g).next) (deleting_by (i % 10 == 0) (i / 2) (omega (arith, few))) (documents_are n (i + 1) (drawn g).next (omega (arith, few))),
)

searching_is : IsCommand searching
searching_is = short_command searching (omega arith) (omega arith) (omega arith, (omega arith, (omega arith, (omega arith, (omega arith, (omega arith, tt))))))

sorting_is : IsCommand sorting
sorting_is = short_command sorting (omega arith) (omega arith) (omega arith, (omega arith, (omega arith, (omega arith, (omega arith, tt)))))

collecting_is : IsCommand collecting
collecting_is = short_command collecting (omega arith) (omega arith) (omega arith, (omega arith, (omega arith, tt)))

grouping_is : IsCommand grouping
grouping_is =
    short_command grouping (omega arith) (omega arith)
    (omega arith, (omega arith, (omega arith, (omega arith, (omega arith, (omega arith, (omega arith, (omega arith, (omega arith, (omega arith, (omega arith, tt)))))))))))

counting_is : IsCommand counting
counting_is = short_command counting (omega arith) (omega arith) (omega arith, tt)

creating_is : IsCommand creating
creating_is =
    short_command creating (omega arith) (omega arith)
    (omega arith, (omega arith, (omega arith, (omega arith, (omega arith, (omega arith, (omega arith, (omega arith, (omega arith, tt)))))))))

last_are : AllByRecursion IsCommand last_commands
last_are = (searching_is, (sorting_is, (collecting_is, (grouping_is, (counting_is, tt)))))

pub load_are : (seed docs : ℕ) → docs ≤ 100000 → AllByRecursion IsCommand (load seed docs)
unfolding load
load_are seed docs few = (creating_is, both_are (documents docs 1 (begun seed)) last_commands (documents_are docs 1 (begun seed) (omega (arith, few))) last_are)

pub load_is : (seed docs : ℕ) → docs ≤ 100000 → All IsCommand (load seed docs)
load_is seed docs few = All-from_recursion IsCommand (load seed docs) (load_are seed docs few)
