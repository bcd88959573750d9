-- Reading one name of a field after another, as a loop does it.
use Rattle.std.proofs.Common.{◌≡◌, ℕ, zero, suc, ◌<◌, List, [], ◌∷◌, ◌++◌, length, drop, Option, Some, Ok, Err, refl, ap, sym, ◌∙◌, arith, length-drop}
use Rattle.ft_base.specs.declared.definition.IndexDef.{IndexDef}
use Rattle.ft_base.specs.declared.query.Param.{Param}
use Rattle.ft_base.specs.Reading.{◌>>=◌}
use Rattle.query_lex.specs.declared.lexeme.Lexeme.{Lexeme}
use Rattle.query_lex.specs.declared.lexeme.Sign.{Sign}
use Rattle.query_lex.specs.declared.lexeme.Sign.TheVariants as signs
use Rattle.query_grammar.specs.Reading.{Read, behind_field_name, name_at, names_at, names_in, next_sign}
use Rattle.query_grammar.specs.Reading as reading
use Rattle.query_parse.specs.declared.stop.Stop.{Stop}
use Rattle.query_parse.specs.Gives.{Stops}
use Rattle.query_parse.proofs.StopLemmas.{stops-so}

module _ (def : IndexDef) (params : List Param) where
  -- What is read from here is what the whole gives: with so many steps left, which are more than there are lexemes.
  pub record Naming (before : List ℕ) (ts : List Lexeme) (whole : Read (List ℕ)) : Type 0 where
    pub steps : ℕ
    pub enough : length ts < steps
    pub same : names_in def params steps before ts ≡ whole

  pub begins : (ts : List Lexeme) → Naming [] ts (names_at def params [] ts)
  unfolding names_at
  begins ts = record { steps = suc (length ts); enough = omega arith; same = refl }

  -- what follows a name
  abbrev behind : ℕ → List ℕ → Option Sign → List Lexeme → Read (List ℕ)
  behind n found s us = behind_field_name def params (λ vs. names_in def params n found vs) found s us

  pub goes_on : (before : List ℕ) (found : ℕ) (ts us : List Lexeme) (whole : Read (List ℕ))
      → name_at def params ts ≡ Ok (found, us) → next_sign us ≡ Some signs.Pipe → length us < length ts → Naming before ts whole
      → Naming (before ++ found ∷ []) (drop 1 us) whole
  goes_on before found ts us whole read bar shorter reads = by_steps reads.steps reads.enough reads.same
    where
      by_steps : (n : ℕ) → length ts < n → names_in def params n before ts ≡ whole → Naming (before ++ found ∷ []) (drop 1 us) whole
      by_steps zero few e = absurd (omega (arith, few))
      by_steps (suc n) few e = record {
        steps = n;
        enough = omega (arith, few, shorter, length-drop 1 us);
        same = sym (ap (λ r. r >>= λ x. behind n (before ++ x.0 ∷ []) (next_sign x.1) x.1) read
            ∙ ap (λ s. behind n (before ++ found ∷ []) s us) bar) ∙ e;
      }

  pub stops_there : (before : List ℕ) (ts : List Lexeme) (whole : Read (List ℕ)) (stop : reading.Stop)
      → name_at def params ts ≡ Err stop → Naming before ts whole → whole ≡ Err stop
  stops_there before ts whole stop read reads = by_steps reads.steps reads.enough reads.same
    where
      by_steps : (n : ℕ) → length ts < n → names_in def params n before ts ≡ whole → whole ≡ Err stop
      by_steps zero few e = absurd (omega (arith, few))
      by_steps (suc n) few e = sym e ∙ ap (λ r. r >>= λ x. behind n (before ++ x.0 ∷ []) (next_sign x.1) x.1) read

  pub stops_here : (before : List ℕ) (ts : List Lexeme) (whole : Read (List ℕ)) (stop : Stop)
      → Stops stop (name_at def params ts) → Naming before ts whole → Stops stop whole
  stops_here before ts whole stop stops reads = stops-so stop (name_at def params ts) whole (λ s e. stops_there before ts whole s e reads) stops

  -- no bar follows
  pub ended : (before : List ℕ) (found : ℕ) (ts us : List Lexeme) (whole : Read (List ℕ))
      → name_at def params ts ≡ Ok (found, us) → ((n : ℕ) → behind n (before ++ found ∷ []) (next_sign us) us ≡ Ok (before ++ found ∷ [], us)) → Naming before ts whole
      → whole ≡ Ok (before ++ found ∷ [], us)
  ended before found ts us whole read last reads = by_steps reads.steps reads.enough reads.same
    where
      by_steps : (n : ℕ) → length ts < n → names_in def params n before ts ≡ whole → whole ≡ Ok (before ++ found ∷ [], us)
      by_steps zero few e = absurd (omega (arith, few))
      by_steps (suc n) few e = sym e ∙ (ap (λ r. r >>= λ x. behind n (before ++ x.0 ∷ []) (next_sign x.1) x.1) read ∙ last n)
