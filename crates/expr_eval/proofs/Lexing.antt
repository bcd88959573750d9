-- Reading one token after another, and one byte of a text after another, as loops do it.
use Rattle.std.proofs.Common.{◌≡◌, ℕ, zero, suc, ◌-◌, ◌≤◌, List, [], ◌∷◌, ◌++◌, length, Bool, false, true, Option, Some, None, refl, ap, sym, subst, ◌∙◌, append_assoc, append-nil, arith}
use Rattle.expr_eval.specs.declared.lexer.InText.{InText}
use Rattle.expr_eval.specs.declared.lexer.InText.TheVariants.{Taken, Escapes, Ends}
use Rattle.expr_eval.specs.declared.token.Kind.{Kind}
use Rattle.expr_eval.specs.declared.token.Token.{Token}
use Rattle.expr_eval.specs.Tokens.{Inside, in_text, text_in, text_with, with_byte, token_at, at_place, tokens_in, tokens_of}

-- What was found and what is read from here, of a text of so many bytes, is what the whole text gives.
pub record Lexes (total : ℕ) (found : List Token) (bytes : List ℕ) (whole : List Token) : Type 0 where
  pub steps : ℕ
  pub enough : length bytes ≤ steps
  pub same : found ++ tokens_in steps total bytes ≡ whole

pub begins : (text : List ℕ) → Lexes (length text) [] text (tokens_of text)
unfolding tokens_of
begins text = record { steps = length text; enough = omega arith; same = refl }

pub goes_on : (total : ℕ) (found : List Token) (b : ℕ) (bytes : List ℕ) (kind : Option Kind) (rest : List ℕ) (whole : List Token)
    → (kind, rest) ≡ token_at b bytes → length rest ≤ length bytes → Lexes total found (b ∷ bytes) whole
    → Lexes total (found ++ at_place (total - length (b ∷ bytes)) kind) rest whole
goes_on total found b bytes kind rest whole read within lexes = by_steps lexes.steps lexes.enough lexes.same
  where
    by_steps : (n : ℕ) → length (b ∷ bytes) ≤ n → found ++ tokens_in n total (b ∷ bytes) ≡ whole
        → Lexes total (found ++ at_place (total - length (b ∷ bytes)) kind) rest whole
    by_steps zero few e = absurd (omega (arith, few))
    by_steps (suc n) few e = record {
      steps = n;
      enough = omega (arith, few, within);
      same = append_assoc found (at_place (total - length (b ∷ bytes)) kind) (tokens_in n total rest)
          ∙ ap (λ (x : Option Kind × List ℕ). found ++ (at_place (total - length (b ∷ bytes)) x.0 ++ tokens_in n total x.1)) read ∙ e;
    }

ended : (total : ℕ) (found whole : List Token) → Lexes total found [] whole → found ≡ whole
ended total found whole lexes = by_steps lexes.steps lexes.same
  where
    by_steps : (n : ℕ) → found ++ tokens_in n total [] ≡ whole → found ≡ whole
    by_steps zero e = sym (append-nil found) ∙ e
    by_steps (suc n) e = sym (append-nil found) ∙ e

-- the same where the bytes are known to begin so
pub goes_on_from : (total : ℕ) (found : List Token) (from : List ℕ) (b : ℕ) (bytes : List ℕ) (kind : Option Kind) (rest : List ℕ) (whole : List Token)
    → from ≡ b ∷ bytes → (kind, rest) ≡ token_at b bytes → length rest ≤ length bytes → Lexes total found from whole
    → Lexes total (found ++ at_place (total - length from) kind) rest whole
goes_on_from total found from b bytes kind rest whole begun read within lexes =
    let P : List ℕ → Type 0 = λ from. Lexes total (found ++ at_place (total - length from) kind) rest whole in
    let Q : List ℕ → Type 0 = λ from. Lexes total found from whole in
    subst P (sym begun) (goes_on total found b bytes kind rest whole read within (subst Q begun lexes))

pub ended_at : (total : ℕ) (found : List Token) (from : List ℕ) (whole : List Token) → from ≡ [] → Lexes total found from whole → found ≡ whole
ended_at total found from whole none lexes =
    let Q : List ℕ → Type 0 = λ from. Lexes total found from whole in
    ended total found whole (subst Q none lexes)

-- bytes of a text in front of the others
abbrev pub with_bytes : List ℕ → Inside → Inside
with_bytes front None = None
with_bytes front (Some x) = Some (front ++ x.0, x.1)

pub with_none : (found : Inside) → with_bytes [] found ≡ found
with_none None = refl
with_none (Some x) = refl

one_more : (front : List ℕ) (b : ℕ) (found : Inside) → with_bytes (front ++ b ∷ []) found ≡ with_bytes front (with_byte b found)
one_more front b None = refl
one_more front b (Some x) = ap (λ (text : List ℕ). Some (text, x.1)) (append_assoc front (b ∷ []) x.0)

abbrev step : List ℕ → ℕ → ℕ → List ℕ → InText → Inside
step front quote b rest does = with_bytes front (text_with does b rest (λ next. text_in quote next rest))

at_head : (front : List ℕ) (quote : ℕ) (escaped : Bool) (from : List ℕ) (b : ℕ) (rest : List ℕ) (does : InText) → from ≡ b ∷ rest → does ≡ in_text quote escaped b
    → step front quote b rest does ≡ with_bytes front (text_in quote escaped from)
at_head front quote escaped from b rest does e d = ap (λ (x : InText). step front quote b rest x) d ∙ ap (λ (x : List ℕ). with_bytes front (text_in quote escaped x)) (sym e)

pub taken : (front : List ℕ) (quote : ℕ) (escaped : Bool) (from : List ℕ) (b : ℕ) (rest : List ℕ) → from ≡ b ∷ rest → Taken ≡ in_text quote escaped b
    → with_bytes (front ++ b ∷ []) (text_in quote false rest) ≡ with_bytes front (text_in quote escaped from)
taken front quote escaped from b rest e d = one_more front b (text_in quote false rest) ∙ at_head front quote escaped from b rest Taken e d

pub escapes : (front : List ℕ) (quote : ℕ) (escaped : Bool) (from : List ℕ) (b : ℕ) (rest : List ℕ) → from ≡ b ∷ rest → Escapes ≡ in_text quote escaped b
    → with_bytes front (text_in quote true rest) ≡ with_bytes front (text_in quote escaped from)
escapes front quote escaped from b rest e d = at_head front quote escaped from b rest Escapes e d

pub ends : (front : List ℕ) (quote : ℕ) (escaped : Bool) (from : List ℕ) (b : ℕ) (rest : List ℕ) → from ≡ b ∷ rest → Ends ≡ in_text quote escaped b
    → Some (front, rest) ≡ with_bytes front (text_in quote escaped from)
ends front quote escaped from b rest e d = ap (λ (text : List ℕ). Some (text, rest)) (sym (append-nil front)) ∙ at_head front quote escaped from b rest Ends e d

pub no_end : (front : List ℕ) (quote : ℕ) (escaped : Bool) (from : List ℕ) → from ≡ [] → None ≡ with_bytes front (text_in quote escaped from)
no_end front quote escaped from e = ap (λ (x : List ℕ). with_bytes front (text_in quote escaped x)) (sym e)
