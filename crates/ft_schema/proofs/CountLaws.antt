-- Counts, and the words that they count.
use Rattle.std.proofs.Common.{◌≡◌, ℕ, ℤ, pos, negsuc, neg_ℤ, ◌<◌, ◌≤◌, ◌^◌, Bool, true, false, ◌&&◌, cond, eqb, List, [], ◌∷◌, ◌++◌, length, drop, Option, Some, None, Ok, refl, sym, ap, subst, ◌∙◌, arith, length-append}
use Rattle.std.specs.Prelude.{nat_le}
use Rattle.std.specs.Fmt.{decimal, signed_decimal}
use Rattle.std.specs.Str.{bytes_eq}
use Rattle.std.specs.Str.Parse.{signed_digits_value, digits_value, AllDigits}
use Rattle.std.proofs.lemmas.Bool.{ne_eqb, and_from, and_parts, lt-ltb, ltb-true, le-leb}
use Rattle.std.proofs.lemmas.Fmt.{decimal_is_IsNumeral}
use Rattle.std.proofs.lemmas.Slice.Eq.{bytes_eq-Decides}
use Rattle.std.proofs.lemmas.Str.Parse.{digit_from_value}
use Rattle.ft_base.specs.Number.{int_of, is_spelling, is_i64}
use Rattle.ft_schema.specs.declared.fault.Cause.TheVariants.{BadNumber}
use Rattle.ft_schema.specs.Names.{Word}
use Rattle.ft_schema.specs.Reading.{Read, fault, count_with, count_at}
use Rattle.ft_schema.proofs.LawfulLaws.{is_ok_of}

abbrev some_int : ℤ → Option ℤ
some_int n = Some n

-- digits alone stand for what they spell
value_pos : (digits : List ℕ) → AllDigits 10 digits → 0 < length digits
    → signed_digits_value 10 digits ≡ pos (digits_value 10 digits)
value_pos [] d some = absurd (omega (arith, some))
value_pos (c ∷ cs) d some =
    let r = digit_from_value c d.0 in
    let minus : eqb c 45 ≡ false = ne_eqb c 45 (λ e. omega (arith, r, e)) in
    let plus : eqb c 43 ≡ false = ne_eqb c 43 (λ e. omega (arith, r, e)) in
    let text : Bool → Bool → List ℕ = λ m p. cond m cs (drop (cond p 1 0) (c ∷ cs)) in
    let value : Bool → Bool → ℤ = λ m p. cond m (neg_ℤ (pos (digits_value 10 (text m p)))) (pos (digits_value 10 (text m p))) in
    ap (λ m. value m (eqb c 43)) minus ∙ ap (λ p. value false p) plus

-- a number is read from its spelling
decimal_again : (n : ℕ) → n < 2 ^ 63 → int_of (decimal n) ≡ Some (pos n)
unfolding int_of
decimal_again n fits =
    let text = decimal n in
    let numeral = decimal_is_IsNumeral n (omega (arith, fits)) in
    let value : signed_digits_value 10 text ≡ pos n = value_pos text numeral.0.1 numeral.0.0 ∙ ap pos numeral.1 in
    let held : is_spelling text (pos n) ≡ true =
    and_from (is_i64 (pos n)) (bytes_eq text text) (lt-ltb n (2 ^ 63) fits) ((bytes_eq-Decides text text).1 refl)
    in
    subst (λ (v : ℤ). cond (is_spelling text v) (some_int v) None ≡ Some (pos n)) (sym value)
    (ap (λ b. cond b (some_int (pos n)) None) held)

-- so many words are counted by their number
pub count_again : (least : ℕ) (words more : List Word) → least ≤ length words → length words < 2 ^ 63
    → count_at least (decimal (length words) ∷ (words ++ more)) ≡ Ok (length words, words ++ more)
unfolding count_at
count_again least words more enough fits =
    let n = length words in
    let from : List Word = decimal n ∷ (words ++ more) in
    let there : (nat_le least n && nat_le n (length (words ++ more))) ≡ true =
    and_from (nat_le least n) (nat_le n (length (words ++ more))) (le-leb least n enough)
    (le-leb n (length (words ++ more)) (omega (arith, length-append words more)))
    in
    ap (λ found. count_with least found from (words ++ more)) (decimal_again n fits)
    ∙ ap (λ (b : Bool). cond {A = Read ℕ} b (Ok (n, words ++ more)) (fault BadNumber from)) there

-- a number that a text spells has 64 bits
spelled-fits : (text : List ℕ) (n : ℤ) → int_of text ≡ Some n → is_i64 n ≡ true
unfolding int_of
spelled-fits text n is = by_test (signed_digits_value 10 text) (is_spelling text (signed_digits_value 10 text)) refl is
  where
    by_test : (value : ℤ) (test : Bool) → is_spelling text value ≡ test → cond test (some_int value) None ≡ Some n
        → is_i64 n ≡ true
    by_test value true spells is =
        let same : value ≡ n = cc (is) in
        subst (λ (m : ℤ). is_i64 m ≡ true) same (and_parts (is_i64 value) (bytes_eq text (signed_decimal value)) spells).0
    by_test value false spells is = cc (is)

-- and so has a count
pub count-fits : (least : ℕ) (words : List Word) (read : ℕ × List Word) → count_at least words ≡ Ok read → read.0 < 2 ^ 63
unfolding count_at
count-fits least [] read e = absurd (cc)
count-fits least (word ∷ words) read e = by_number (int_of word) refl e
  where
    by_test : (n : ℕ) → is_i64 (pos n) ≡ true → (test : Bool)
        → cond {A = Read ℕ} test (Ok (n, words)) (fault BadNumber (word ∷ words)) ≡ Ok read
        → read.0 < 2 ^ 63
    by_test n fits true e = subst (λ (r : ℕ × List Word). r.0 < 2 ^ 63) (is_ok_of e) (ltb-true n (2 ^ 63) fits)
    by_test n fits false e = absurd (cc)

    by_number : (found : Option ℤ) → int_of word ≡ found → count_with least found (word ∷ words) words ≡ Ok read
        → read.0 < 2 ^ 63
    by_number None is e = absurd (cc)
    by_number (Some (negsuc n)) is e = absurd (cc)
    by_number (Some (pos n)) is e = by_test n (spelled-fits word (pos n) is) (nat_le least n && nat_le n (length words)) e
