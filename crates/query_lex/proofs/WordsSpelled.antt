-- A word stands with a backslash before each of its separators.
use Rattle.std.proofs.Common.{◌≡◌, ℕ, ◌<◌, Bool, true, false, cond, not, eqb, List, [], ◌∷◌, ◌++◌, length, drop, Option, Some, None, Ok, IfOk, IfSome, codes, refl, ap, sym, ◌∙◌, subst, inl, inr, length-append, arith}
use Rattle.std.specs.Prelude.{◌&&◌, ◌||◌}
use Rattle.std.proofs.lemmas.Bool.{eqb-true, not-true, and_parts, or_cases, or_parts, or_from, not_from_false, cond_both}
use Rattle.std.proofs.lemmas.Slice.Eq.{bytes_eq-Decides}
use Rattle.std.specs.Str.{bytes_eq}
use Rattle.ft_base.specs.Reading.{◌>>=◌}
use Rattle.query_lex.specs.declared.fault.Cause.TheVariants.{LoneEscape}
use Rattle.query_lex.specs.declared.lexeme.LexKind.{LexKind}
use Rattle.query_lex.specs.declared.lexeme.LexKind.TheVariants.{Word, Prefix, Foreign}
use Rattle.query_lex.specs.Bytes.{begins_word, comes, is_at}
use Rattle.ft_base.specs.Separators.{is_separator}
use Rattle.query_lex.specs.Escaping.{escaped_word}
use Rattle.query_lex.specs.Reading.{Read, Next, fault}
use Rattle.query_lex.specs.Spelling.{is_among, foreign_forms}
use Rattle.query_lex.specs.Spells.{goes_on_word}
use Rattle.query_lex.specs.Words.{Found, escaped_at, letter_at, next_letter, is_w, word_with, word_at}
use Rattle.query_lex.proofs.Standing.{Stands, StandsSo, took, at-next, with-next}
use Rattle.query_lex.proofs.Taken.{Step, Run, Steps, as_next, some-next, first_then}

abbrev SpellsWord : List ℕ → List ℕ → Type 0
SpellsWord word bytes = bytes ≡ escaped_word word

escaped-separator : (b : ℕ) (word : List ℕ) → is_separator b ≡ true
    → escaped_word (b ∷ word) ≡ 92 ∷ b ∷ escaped_word word
escaped-separator b word e = ap (λ (is : Bool). cond is (92 ∷ b ∷ escaped_word word) (b ∷ escaped_word word)) e

escaped-plain : (b : ℕ) (word : List ℕ) → is_separator b ≡ false → escaped_word (b ∷ word) ≡ b ∷ escaped_word word
escaped-plain b word e = ap (λ (is : Bool). cond is (92 ∷ b ∷ escaped_word word) (b ∷ escaped_word word)) e

escape-step : (rest : List ℕ) → IfOk (escaped_at rest) (λ x. Step SpellsWord (92 ∷ rest) x.0 x.1)
escape-step [] = tt
escape-step (b ∷ rest) = by_test (is_separator b) refl
  where
    by_test : (is : Bool) → is_separator b ≡ is
        → IfOk (cond {A = Read ℕ} is (Ok (b, rest)) (fault LoneEscape (92 ∷ b ∷ rest)))
        (λ x. Step SpellsWord (92 ∷ b ∷ rest) x.0 x.1)
    by_test true e = record {
      front = 92 ∷ b ∷ [];
      least = omega arith;
      whole = refl;
      adds = λ word more spells. ap (λ (bytes : List ℕ). 92 ∷ b ∷ bytes) spells ∙ sym (escaped-separator b word e);
    }
    by_test false e = tt

letter-step : (b : ℕ) (rest : List ℕ) → begins_word b ≡ true
    → IfOk (letter_at b rest) (λ x. Step SpellsWord (b ∷ rest) x.0 x.1)
letter-step b rest begins = by_test (eqb b 92) refl
  where
    plain : eqb b 92 ≡ false → is_separator b ≡ false
    plain e = not-true (is_separator b) (sym (ap (λ (is : Bool). is || not (is_separator b)) e) ∙ begins)

    by_test : (is : Bool) → eqb b 92 ≡ is
        → IfOk (cond {A = Read ℕ} is (escaped_at rest) (Ok (b, rest))) (λ x. Step SpellsWord (b ∷ rest) x.0 x.1)
    by_test true e =
        subst (λ (c : ℕ). IfOk (escaped_at rest) (λ x. Step SpellsWord (c ∷ rest) x.0 x.1)) (sym (eqb-true b 92 e))
        (escape-step rest)
    by_test false e = record {
      front = b ∷ [];
      least = omega arith;
      whole = refl;
      adds = λ word more spells. ap (λ (bytes : List ℕ). b ∷ bytes) spells ∙ sym (escaped-plain b word (plain e));
    }

letter-steps : Steps next_letter SpellsWord
unfolding next_letter
letter-steps [] = tt
letter-steps (b ∷ rest) = by_test (begins_word b) refl
  where
    by_test : (is : Bool) → begins_word b ≡ is
        → IfOk (cond {A = Next ℕ} is (letter_at b rest >>= λ letter. Ok (Some letter)) (Ok None))
        (λ found. IfSome found (λ x. Step SpellsWord (b ∷ rest) x.0 x.1))
    by_test true e = as_next (letter_at b rest) (λ x. Step SpellsWord (b ∷ rest) x.0 x.1) (letter-step b rest e)
    by_test false e = tt

-- where none comes next, no byte of a word does
letters-end : (behind : List ℕ) → next_letter behind ≡ Ok None → comes begins_word behind ≡ false
unfolding next_letter
letters-end [] last = refl
letters-end (b ∷ rest) last = by_test (begins_word b) last
  where
    by_test : (is : Bool) → cond {A = Next ℕ} is (letter_at b rest >>= λ letter. Ok (Some letter)) (Ok None) ≡ Ok None
        → is ≡ false
    by_test true e = absurd (some-next (letter_at b rest) e)
    by_test false e = refl

-- and where no `*` does either, nothing goes on with it
word-ends : (behind : List ℕ) → comes begins_word behind ≡ false → is_at 42 behind ≡ false
    → comes goes_on_word behind ≡ false
word-ends [] none no_star = refl
word-ends (b ∷ rest) none no_star =
    let parts = or_parts (eqb b 92) (not (is_separator b)) none in
    or_from (not (is_separator b)) (eqb b 92 || eqb b 42) parts.1 (or_from (eqb b 92) (eqb b 42) parts.0 no_star)

-- `w` and `W` are no separators, and are forms that are left out
abbrev IsForm : List ℕ → Type 0
IsForm word = (escaped_word word ≡ word) × (is_among foreign_forms word ≡ true)

w-form : (word : List ℕ) → is_w word ≡ true → IsForm word
w-form word e =
    elim (or_cases (bytes_eq word (codes "w")) (bytes_eq word (codes "W")) e) [
      | inl is ↦ subst IsForm (sym ((bytes_eq-Decides word (codes "w")).0 is)) (refl, refl)
      | inr is ↦ subst IsForm (sym ((bytes_eq-Decides word (codes "W")).0 is)) (refl, refl)
    ]

-- a word that no `*` follows
abbrev unstarred : List ℕ → List ℕ → Found
unstarred word behind = cond (is_w word && is_at 39 behind) (Some (Foreign word), behind) (Some (Word word), behind)

word-found : (b : ℕ) (rest word behind : List ℕ) → Run next_letter SpellsWord word (b ∷ rest) behind → 0 < length word
    → StandsSo false b rest (word_with word behind)
word-found b rest word behind run some =
    let bytes : List ℕ = b ∷ rest in
    let P : Found → Type 0 = StandsSo false b rest in
    let more : List ℕ = drop 1 behind in
    cond_both (is_at 42 behind) (Some (Prefix word), more) (unstarred word behind) P
    (λ star.
    took false bytes (Prefix word) more (run.taken ++ 42 ∷ []) (omega (arith, length-append run.taken (42 ∷ [])))
    (with-next bytes run.taken behind more 42 run.whole (at-next 42 behind star))
    (ap (λ (front : List ℕ). front ++ 42 ∷ []) run.spells) refl) (λ no_star.
    cond_both (is_w word && is_at 39 behind) (Some (Foreign word), behind) (Some (Word word), behind) P
    (λ mark.
    let form : IsForm word = w-form word (and_parts (is_w word) (is_at 39 behind) mark).0 in
    took false bytes (Foreign word) behind run.taken (omega arith) run.whole (run.spells ∙ form.0, form.1) refl)
    (λ no_mark.
    let ends : comes goes_on_word behind ≡ false = word-ends behind (letters-end behind run.last) no_star in
    took false bytes (Word word) behind run.taken (omega arith) run.whole run.spells
    (not_from_false (comes goes_on_word behind) ends)))

abbrev as_word : List ℕ × List ℕ → Read (Option LexKind)
as_word run = Ok (word_with run.0 run.1)

pub word-stands : (b : ℕ) (rest : List ℕ) → begins_word b ≡ true
    → IfOk (word_at b rest) (λ x. Stands false b rest x.0 x.1)
unfolding word_at
word-stands b rest begins =
    first_then next_letter SpellsWord (b ∷ rest) (letter_at b rest) as_word
    (λ x. Stands false b rest x.0 x.1) refl letter-steps (letter-step b rest begins)
    (λ x xs behind run. word-found b rest (x ∷ xs) behind run (omega arith))
