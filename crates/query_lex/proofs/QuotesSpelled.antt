-- A quote stands as it is between its marks.
use Rattle.std.proofs.Common.{◌≡◌, ℕ, Bool, true, false, cond, eqb, List, [], ◌∷◌, ◌++◌, drop, Option, Some, None, Ok, Err, if◌then◌else◌, IfOk, IfSome, refl, ap, sym, ◌∙◌, subst, arith}
use Rattle.std.specs.Prelude.{◌||◌}
use Rattle.std.proofs.lemmas.Bool.{eqb-true, or_from, not_from_false}
use Rattle.ft_base.specs.Reading.{◌>>=◌}
use Rattle.query_lex.specs.declared.lexeme.LexKind.{LexKind}
use Rattle.query_lex.specs.declared.lexeme.LexKind.TheVariants.{Quote}
use Rattle.query_lex.specs.declared.text_byte.TextByte.{TextByte}
use Rattle.ft_base.specs.Separators.{is_separator}
use Rattle.query_lex.specs.Quotes.{plain, escaped, spelled, lone_or_open, quoted_escape_at, next_quoted, quote_at}
use Rattle.query_lex.specs.Reading.{Read, Next, run_at}
use Rattle.query_lex.specs.Spelling.{IsQuoted, quoted_end, quoted_byte, quoted_escape}
use Rattle.query_lex.proofs.Standing.{Stands, took, with-next}
use Rattle.query_lex.proofs.Taken.{Step, Run, Steps, run_taken}

abbrev SpellsInside : List TextByte → List ℕ → Type 0
SpellsInside inside bytes = (bytes ≡ spelled inside) × IsQuoted bytes

-- the next byte is read so
abbrev NextSo : List ℕ → Next TextByte → Type 0
NextSo bytes next = IfOk next (λ found. IfSome found (λ x. Step SpellsInside bytes x.0 x.1))

escape-step : (inside rest : List ℕ) → NextSo (92 ∷ rest) (quoted_escape_at inside rest)
escape-step inside [] = tt
escape-step inside (b ∷ rest) = by_test (is_separator b) refl
  where
    by_test : (is : Bool) → is_separator b ≡ is
        → NextSo (92 ∷ b ∷ rest)
        (cond {A = Next TextByte} is (Ok (Some (escaped b, rest))) (Err (lone_or_open inside (b ∷ rest))))
    by_test true e = record {
      front = 92 ∷ b ∷ [];
      least = omega arith;
      whole = refl;
      adds = λ inside more spells. (ap (λ (bytes : List ℕ). 92 ∷ b ∷ bytes) spells.0, quoted_escape e spells.1);
    }
    by_test false e = tt

-- what comes next at a byte that is no quote mark
abbrev unmarked : List ℕ → ℕ → List ℕ → Next TextByte
unmarked inside b rest = if eqb b 92 then quoted_escape_at inside rest else Ok (Some (plain b, rest))

quoted-steps : (inside : List ℕ) → Steps (next_quoted inside) SpellsInside
unfolding next_quoted
quoted-steps inside [] = tt
quoted-steps inside (b ∷ rest) = by_mark (eqb b 34) refl
  where
    by_escape : (is : Bool) → eqb b 34 ≡ false → eqb b 92 ≡ is
        → NextSo (b ∷ rest) (cond {A = Next TextByte} is (quoted_escape_at inside rest) (Ok (Some (plain b, rest))))
    by_escape true m e =
        subst (λ (c : ℕ). NextSo (c ∷ rest) (quoted_escape_at inside rest)) (sym (eqb-true b 92 e))
        (escape-step inside rest)
    by_escape false m e = record {
      front = b ∷ [];
      least = omega arith;
      whole = refl;
      adds = λ inside more spells.
          let neither = not_from_false (eqb b 34 || eqb b 92) (or_from (eqb b 34) (eqb b 92) m e) in
          (ap (λ (bytes : List ℕ). b ∷ bytes) spells.0, quoted_byte neither spells.1);
    }

    by_mark : (is : Bool) → eqb b 34 ≡ is → NextSo (b ∷ rest) (cond is (Ok None) (unmarked inside b rest))
    by_mark true m = tt
    by_mark false m = by_escape (eqb b 92) m refl

-- a backslash is read, or it is a fault
escape-goes_on : (inside rest : List ℕ) → quoted_escape_at inside rest ≡ Ok None → ⊥
escape-goes_on inside [] e = cc
escape-goes_on inside (b ∷ rest) e = by_test (is_separator b) e
  where
    by_test : (is : Bool)
        → cond {A = Next TextByte} is (Ok (Some (escaped b, rest))) (Err (lone_or_open inside (b ∷ rest))) ≡ Ok None → ⊥
    by_test true e = cc
    by_test false e = cc

-- where none comes next, the quote is closed
quote-ends : (inside rest : List ℕ) → next_quoted inside rest ≡ Ok None → rest ≡ 34 ∷ drop 1 rest
unfolding next_quoted
quote-ends inside [] e = absurd cc
quote-ends inside (b ∷ rest) e = by_mark (eqb b 34) refl e
  where
    by_escape : (is : Bool)
        → cond {A = Next TextByte} is (quoted_escape_at inside rest) (Ok (Some (plain b, rest))) ≡ Ok None → ⊥
    by_escape true e = escape-goes_on inside rest e
    by_escape false e = cc

    by_mark : (is : Bool) → eqb b 34 ≡ is
        → cond {A = Next TextByte} is (Ok None)
        (cond {A = Next TextByte} (eqb b 92) (quoted_escape_at inside rest) (Ok (Some (plain b, rest)))) ≡ Ok None
        → b ∷ rest ≡ 34 ∷ rest
    by_mark true m e = ap (λ (c : ℕ). c ∷ rest) (eqb-true b 34 m)
    by_mark false m e = absurd (by_escape (eqb b 92) e)

abbrev as_spelled : List TextByte × List ℕ → Read (List ℕ)
as_spelled run = Ok (spelled run.0, run.1)

abbrev as_quote : List ℕ × List ℕ → Read (Option LexKind)
as_quote text = Ok (Some (Quote text.0), drop 1 text.1)

pub quote-stands : (inside : List ℕ) → IfOk (quote_at inside) (λ x. Stands false 34 inside x.0 x.1)
unfolding quote_at
quote-stands inside =
    by_run (run_at (next_quoted inside) inside)
    (run_taken (next_quoted inside) SpellsInside (refl, quoted_end) (quoted-steps inside) inside)
  where
    by_run : (read : Read (List TextByte)) → IfOk read (λ run. Run (next_quoted inside) SpellsInside run.0 inside run.1)
        → IfOk (read >>= as_spelled >>= as_quote) (λ x. Stands false 34 inside x.0 x.1)
    by_run (Ok run) taken =
        let text : List ℕ = spelled run.0 in
        let whole : inside ≡ text ++ run.1 = taken.whole ∙ ap (λ (bytes : List ℕ). bytes ++ run.1) taken.spells.0 in
        took false (34 ∷ inside) (Quote text) (drop 1 run.1) (34 ∷ (text ++ 34 ∷ [])) (omega arith)
        (ap (λ (bytes : List ℕ). 34 ∷ bytes)
        (with-next inside text run.1 (drop 1 run.1) 34 whole (quote-ends inside run.1 taken.last)))
        (refl, subst IsQuoted taken.spells.0 taken.spells.1) refl
    by_run (Err stop) taken = tt
