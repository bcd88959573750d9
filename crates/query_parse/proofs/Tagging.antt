-- Reading one tag after another, as a loop does it.
use Rattle.std.proofs.Common.{◌≡◌, ℕ, zero, suc, ◌<◌, List, [], ◌∷◌, ◌++◌, length, drop, Bool, true, false, cond, Option, Some, None, Ok, Err, refl, ap, sym, ◌∙◌, arith}
use Rattle.ft_base.specs.declared.definition.IndexDef.{IndexDef}
use Rattle.ft_base.specs.declared.query.Param.{Param}
use Rattle.ft_base.specs.declared.query.TagPart.{TagPart}
use Rattle.ft_base.specs.Reading.{◌>>=◌}
use Rattle.query_lex.specs.declared.lexeme.Lexeme.{Lexeme}
use Rattle.query_lex.specs.declared.lexeme.Sign.{Sign}
use Rattle.query_lex.specs.declared.lexeme.Sign.TheVariants as signs
use Rattle.query_grammar.specs.declared.fault.QueryFault.{QueryFault}
use Rattle.query_grammar.specs.Faults.{faults_at}
use Rattle.query_grammar.specs.Grammar.{is_tag}
use Rattle.query_grammar.specs.Meaning.{tag_part}
use Rattle.query_grammar.specs.Reading.{Read, Broken, next_sign, tag_with, tags_at, tags_in, tags_with, unless}
use Rattle.query_grammar.specs.Reading as reading
use Rattle.query_parse.specs.Steps.{ends_tags, tag_at}
use Rattle.query_parse.specs.declared.stop.Stop.{Stop}
use Rattle.query_parse.specs.Gives.{Stops}
use Rattle.query_parse.proofs.StopLemmas.{stops-so}

module _ (def : IndexDef) (params : List Param) (case : Bool) where
  -- what is read of a tag, and what then follows
  tag-then : (others : List TagPart → List Lexeme → Read (List TagPart)) (before : List TagPart) (ts : List Lexeme)
      → tag_with def params others case before ts ≡ (tag_at params case ts >>= λ x. others (before ++ x.0 ∷ []) x.1)
  tag-then others before [] = refl
  tag-then others before (t ∷ ts) = by_test (is_tag t.kind) (faults_at params t)
    where
      by_test : (is : Bool) (faults : List QueryFault)
          → (cond is (unless faults ts (others (before ++ tag_part params case t.kind ∷ []) ts)) (Err (Broken (t ∷ ts))))
          ≡ (cond is (unless faults ts (Ok (tag_part params case t.kind, ts))) (Err (Broken (t ∷ ts))) >>= λ x. others (before ++ x.0 ∷ []) x.1)
      by_test true [] = refl
      by_test true (fault ∷ faults) = refl
      by_test false faults = refl

  -- What is read from here is what the whole gives: with so many steps left, which are more than there are lexemes.
  pub record Tagging (before : List TagPart) (ts : List Lexeme) (whole : Read (List TagPart)) : Type 0 where
    pub steps : ℕ
    pub enough : length ts < steps
    pub same : tags_in def params case steps before ts ≡ whole

  pub begins : (ts : List Lexeme) → Tagging [] ts (tags_at def params case [] ts)
  unfolding tags_at
  begins ts = record { steps = suc (length ts); enough = omega arith; same = refl }

  -- no brace closes the tags here
  abbrev pub IsOpen : List Lexeme → Type 0
  IsOpen ts = (others : List TagPart → List Lexeme → Read (List TagPart)) (before : List TagPart)
      → tags_with def params others case before (next_sign ts) ts ≡ tag_with def params others case before ts

  pub goes_on : (before : List TagPart) (found : TagPart) (ts us : List Lexeme) (whole : Read (List TagPart))
      → IsOpen ts → tag_at params case ts ≡ Ok (found, us) → length us < length ts → Tagging before ts whole → Tagging (before ++ found ∷ []) us whole
  goes_on before found ts us whole unclosed read shorter reads = by_steps reads.steps reads.enough reads.same
    where
      by_steps : (n : ℕ) → length ts < n → tags_in def params case n before ts ≡ whole → Tagging (before ++ found ∷ []) us whole
      by_steps zero few e = absurd (omega (arith, few))
      by_steps (suc n) few e = record {
        steps = n;
        enough = omega (arith, few, shorter);
        same = sym (unclosed (λ parts vs. tags_in def params case n parts vs) before ∙ (tag-then (λ parts vs. tags_in def params case n parts vs) before ts
            ∙ ap (λ r. r >>= λ x. tags_in def params case n (before ++ x.0 ∷ []) x.1) read)) ∙ e;
      }

  pub stops_there : (before : List TagPart) (ts : List Lexeme) (whole : Read (List TagPart)) (stop : reading.Stop)
      → IsOpen ts → tag_at params case ts ≡ Err stop → Tagging before ts whole → whole ≡ Err stop
  stops_there before ts whole stop unclosed read reads = by_steps reads.steps reads.enough reads.same
    where
      by_steps : (n : ℕ) → length ts < n → tags_in def params case n before ts ≡ whole → whole ≡ Err stop
      by_steps zero few e = absurd (omega (arith, few))
      by_steps (suc n) few e = sym e ∙ (unclosed (λ parts vs. tags_in def params case n parts vs) before ∙ (tag-then (λ parts vs. tags_in def params case n parts vs) before ts
          ∙ ap (λ r. r >>= λ x. tags_in def params case n (before ++ x.0 ∷ []) x.1) read))

  pub stops_here : (before : List TagPart) (ts : List Lexeme) (whole : Read (List TagPart)) (stop : Stop)
      → IsOpen ts → Stops stop (tag_at params case ts) → Tagging before ts whole → Stops stop whole
  stops_here before ts whole stop unclosed stops reads = stops-so stop (tag_at params case ts) whole (λ s e. stops_there before ts whole s unclosed e reads) stops

  pub is-open : (ts : List Lexeme) → ends_tags (next_sign ts) ≡ false → IsOpen ts
  is-open ts not others before = by_sign (next_sign ts) not
    where
      by_sign : (s : Option Sign) → ends_tags s ≡ false → tags_with def params others case before s ts ≡ tag_with def params others case before ts
      by_sign None e = refl
      by_sign (Some signs.Star) e = refl
      by_sign (Some signs.Open) e = refl
      by_sign (Some signs.Close) e = refl
      by_sign (Some signs.Pipe) e = refl
      by_sign (Some signs.Minus) e = refl
      by_sign (Some signs.Tilde) e = refl
      by_sign (Some signs.At) e = refl
      by_sign (Some signs.Colon) e = refl
      by_sign (Some signs.Arrow) e = refl
      by_sign (Some signs.RangeOpen) e = refl
      by_sign (Some signs.RangeClose) e = refl
      by_sign (Some signs.TagOpen) e = refl
      by_sign (Some signs.TagClose) e = absurd cc
      by_sign (Some signs.AttrOpen) e = refl
      by_sign (Some signs.AttrClose) e = refl
      by_sign (Some signs.Semi) e = refl
      by_sign (Some signs.Stray) e = refl

  is-closed : (s : Option Sign) → ends_tags s ≡ true → s ≡ Some signs.TagClose
  is-closed None e = absurd cc
  is-closed (Some signs.Star) e = absurd cc
  is-closed (Some signs.Open) e = absurd cc
  is-closed (Some signs.Close) e = absurd cc
  is-closed (Some signs.Pipe) e = absurd cc
  is-closed (Some signs.Minus) e = absurd cc
  is-closed (Some signs.Tilde) e = absurd cc
  is-closed (Some signs.At) e = absurd cc
  is-closed (Some signs.Colon) e = absurd cc
  is-closed (Some signs.Arrow) e = absurd cc
  is-closed (Some signs.RangeOpen) e = absurd cc
  is-closed (Some signs.RangeClose) e = absurd cc
  is-closed (Some signs.TagOpen) e = absurd cc
  is-closed (Some signs.TagClose) e = refl
  is-closed (Some signs.AttrOpen) e = absurd cc
  is-closed (Some signs.AttrClose) e = absurd cc
  is-closed (Some signs.Semi) e = absurd cc
  is-closed (Some signs.Stray) e = absurd cc

  pub ended : (before : List TagPart) (ts : List Lexeme) (whole : Read (List TagPart)) → ends_tags (next_sign ts) ≡ true → Tagging before ts whole → whole ≡ Ok (before, drop 1 ts)
  ended before ts whole closes reads = by_steps reads.steps reads.enough reads.same
    where
      by_steps : (n : ℕ) → length ts < n → tags_in def params case n before ts ≡ whole → whole ≡ Ok (before, drop 1 ts)
      by_steps zero few e = absurd (omega (arith, few))
      by_steps (suc n) few e = sym e ∙ ap (λ s. tags_with def params (λ parts vs. tags_in def params case n parts vs) case before s ts) (is-closed (next_sign ts) closes)
