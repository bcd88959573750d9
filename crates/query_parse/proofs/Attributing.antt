-- Reading one attribute after another, as a loop does it.
use Rattle.std.proofs.Common.{◌≡◌, ℕ, zero, suc, ◌<◌, List, [], length, refl, sym, ◌∙◌, arith}
use Rattle.ft_base.specs.declared.definition.IndexDef.{IndexDef}
use Rattle.ft_base.specs.declared.query.Param.{Param}
use Rattle.query_lex.specs.declared.lexeme.Lexeme.{Lexeme}
use Rattle.query_grammar.specs.Form.{Pair}
use Rattle.query_grammar.specs.Reading.{Block, next_sign, pair_with, pairs_at, pairs_in}
use Rattle.query_parse.specs.Blocks.{stepped}
use Rattle.query_parse.specs.declared.blocks.Step.{Step}

module _ (def : IndexDef) (params : List Param) where
  -- What is read from here is what the whole gives: with so many steps left, which are more than there are lexemes.
  pub record Attributing (before : List Pair) (ts : List Lexeme) (whole : Block def params) : Type 0 where
    pub steps : ℕ
    pub enough : length ts < steps
    pub same : pairs_in def params steps before ts ≡ whole

  pub begins : (ts : List Lexeme) → Attributing [] ts (pairs_at def params [] ts)
  unfolding pairs_at
  begins ts = record { steps = suc (length ts); enough = omega arith; same = refl }

  -- this is what stands next
  abbrev pub Comes : Step → List Pair → List Lexeme → Type 0
  Comes step before ts = (others : List Pair → List Lexeme → Block def params)
      → stepped def params others before step ≡ pair_with def params others before (next_sign ts) ts

  -- what the step gives, whatever others are, is what is read
  pub ended : (step : Step) (before : List Pair) (ts : List Lexeme) (whole last : Block def params)
      → Comes step before ts → ((others : List Pair → List Lexeme → Block def params) → stepped def params others before step ≡ last)
      → Attributing before ts whole → last ≡ whole
  ended step before ts whole last comes is reads = by_steps reads.steps reads.enough reads.same
    where
      by_steps : (n : ℕ) → length ts < n → pairs_in def params n before ts ≡ whole → last ≡ whole
      by_steps zero few e = absurd (omega (arith, few))
      by_steps (suc n) few e = sym (is (λ pairs us. pairs_in def params n pairs us)) ∙ (comes (λ pairs us. pairs_in def params n pairs us) ∙ e)

  pub goes_on : (step : Step) (before after : List Pair) (ts us : List Lexeme) (whole : Block def params)
      → Comes step before ts → ((others : List Pair → List Lexeme → Block def params) → stepped def params others before step ≡ others after us)
      → length us < length ts → Attributing before ts whole → Attributing after us whole
  goes_on step before after ts us whole comes is shorter reads = by_steps reads.steps reads.enough reads.same
    where
      by_steps : (n : ℕ) → length ts < n → pairs_in def params n before ts ≡ whole → Attributing after us whole
      by_steps zero few e = absurd (omega (arith, few))
      by_steps (suc n) few e = record {
        steps = n;
        enough = omega (arith, few, shorter);
        same = sym (is (λ pairs vs. pairs_in def params n pairs vs)) ∙ (comes (λ pairs vs. pairs_in def params n pairs vs) ∙ e);
      }
