-- Reading one of something that is joined after another, as a loop does it.
use Rattle.std.proofs.Common.{◌≡◌, ℕ, zero, suc, ◌<◌, List, ◌++◌, length, Option, Some, None, Ok, Err, ap, sym, ◌∙◌, arith}
use Rattle.ft_base.specs.declared.query.Query.{Query}
use Rattle.ft_base.specs.Reading.{◌>>=◌}
use Rattle.query_lex.specs.declared.lexeme.Lexeme.{Lexeme}
use Rattle.query_grammar.specs.Reading.{Read, Reader, chain_at, joined_at, joined_in, joined_with}
use Rattle.query_grammar.specs.Reading as reading
use Rattle.query_parse.specs.declared.stop.Stop.{Stop}
use Rattle.query_parse.specs.Gives.{Stops}
use Rattle.query_parse.proofs.StopLemmas.{stops-so}

module _ (joint : List Lexeme → Option (List Lexeme)) (next : Reader) (side : List Query → List Query) where
  -- What is read from here is what the whole gives: with so many steps left, which are more than there are lexemes.
  pub record Joining (before : List Query) (ts : List Lexeme) (whole : Read (List Query)) : Type 0 where
    pub steps : ℕ
    pub enough : length ts < steps
    pub same : joined_in joint next side steps before ts ≡ whole

  -- the first is read
  pub begins : (ts us : List Lexeme) (first : List Query) → next ts ≡ Ok (first, us) → Joining (side first) us (chain_at joint next side ts)
  unfolding chain_at joined_at
  begins ts us first read = record {
    steps = suc (length us);
    enough = omega arith;
    same = sym (ap (λ r. r >>= λ x. joined_at joint next side (side x.0) x.1) read);
  }

  -- the first is not read
  pub none_begins : (ts : List Lexeme) (stop : reading.Stop) → next ts ≡ Err stop → chain_at joint next side ts ≡ Err stop
  unfolding chain_at
  none_begins ts stop read = ap (λ r. r >>= λ x. joined_at joint next side (side x.0) x.1) read

  pub stops_first : (ts : List Lexeme) (stop : Stop) → Stops stop (next ts) → Stops stop (chain_at joint next side ts)
  stops_first ts stop stops = stops-so stop (next ts) (chain_at joint next side ts) (λ s e. none_begins ts s e) stops

  pub goes_on : (before found : List Query) (ts us rest : List Lexeme) (whole : Read (List Query))
      → joint ts ≡ Some us → next us ≡ Ok (found, rest) → length rest < length ts → Joining before ts whole → Joining (before ++ side found) rest whole
  goes_on before found ts us rest whole joins read shorter reads = by_steps reads.steps reads.enough reads.same
    where
      by_steps : (n : ℕ) → length ts < n → joined_in joint next side n before ts ≡ whole → Joining (before ++ side found) rest whole
      by_steps zero few e = absurd (omega (arith, few))
      by_steps (suc n) few e = record {
        steps = n;
        enough = omega (arith, few, shorter);
        same = sym (ap (λ j. joined_with (λ qs vs. joined_in joint next side n qs vs) next side before ts j) joins
            ∙ ap (λ r. r >>= λ x. joined_in joint next side n (before ++ side x.0) x.1) read) ∙ e;
      }

  pub stops_there : (before : List Query) (ts us : List Lexeme) (whole : Read (List Query)) (stop : reading.Stop)
      → joint ts ≡ Some us → next us ≡ Err stop → Joining before ts whole → whole ≡ Err stop
  stops_there before ts us whole stop joins read reads = by_steps reads.steps reads.enough reads.same
    where
      by_steps : (n : ℕ) → length ts < n → joined_in joint next side n before ts ≡ whole → whole ≡ Err stop
      by_steps zero few e = absurd (omega (arith, few))
      by_steps (suc n) few e = sym e ∙ (ap (λ j. joined_with (λ qs vs. joined_in joint next side n qs vs) next side before ts j) joins
          ∙ ap (λ r. r >>= λ x. joined_in joint next side n (before ++ side x.0) x.1) read)

  pub stops_here : (before : List Query) (ts us : List Lexeme) (whole : Read (List Query)) (stop : Stop)
      → joint ts ≡ Some us → Stops stop (next us) → Joining before ts whole → Stops stop whole
  stops_here before ts us whole stop joins stops reads = stops-so stop (next us) whole (λ s e. stops_there before ts us whole s joins e reads) stops

  pub ended : (before : List Query) (ts : List Lexeme) (whole : Read (List Query)) → joint ts ≡ None → Joining before ts whole → whole ≡ Ok (before, ts)
  ended before ts whole joins reads = by_steps reads.steps reads.enough reads.same
    where
      by_steps : (n : ℕ) → length ts < n → joined_in joint next side n before ts ≡ whole → whole ≡ Ok (before, ts)
      by_steps zero few e = absurd (omega (arith, few))
      by_steps (suc n) few e = sym e ∙ ap (λ j. joined_with (λ qs vs. joined_in joint next side n qs vs) next side before ts j) joins
