-- Reading one lexeme after another, as a loop does it.
use Rattle.std.proofs.Common.{◌≡◌, ℕ, zero, suc, ◌-◌, ◌≤◌, List, [], ◌∷◌, ◌++◌, length, Option, Result, Ok, Err, refl, ap, sym, subst, ◌∙◌, append_assoc, append-nil, arith}
use Rattle.ft_base.specs.Reading.{◌>>=◌}
use Rattle.query_lex.specs.declared.context.Context.{Context}
use Rattle.query_lex.specs.declared.context.Context.TheVariants.{Text}
use Rattle.query_lex.specs.declared.fault.Stop.{Stop}
use Rattle.query_lex.specs.declared.fault.Stop.TheVariants as stops
use Rattle.query_lex.specs.declared.lexeme.LexKind.{LexKind}
use Rattle.query_lex.specs.declared.lexeme.Lexeme.{Lexeme}
use Rattle.query_lex.specs.Context.{context_behind}
use Rattle.query_lex.specs.Gives.{Stops}
use Rattle.query_lex.specs.Lexemes.{lexeme_at, at_place, lexed_in, lexed}

abbrev Lexemes : Type 0
Lexemes = Result (List Lexeme) Stop

-- lexemes behind those that were found
abbrev pub after : List Lexeme → Lexemes → Lexemes
after found others = others >>= λ lexemes. Ok (found ++ lexemes)

-- What is read from here, of a text of so many bytes, is what the whole text gives.
pub record Lexes (total : ℕ) (found : List Lexeme) (context : Context) (bytes : List ℕ) (whole : Lexemes) : Type 0 where
  pub steps : ℕ
  pub enough : length bytes ≤ steps
  pub same : after found (lexed_in steps total context bytes) ≡ whole

after-none : (others : Lexemes) → after [] others ≡ others
after-none (Ok lexemes) = refl
after-none (Err stop) = refl

after-more : (found more : List Lexeme) (others : Lexemes) → after found (after more others) ≡ after (found ++ more) others
after-more found more (Ok lexemes) = ap (λ (all : List Lexeme). Ok all) (sym (append_assoc found more lexemes))
after-more found more (Err stop) = refl

pub begins : (text : List ℕ) → Lexes (length text) [] Text text (lexed text)
unfolding lexed
begins text = record { steps = length text; enough = omega arith; same = after-none (lexed_in (length text) (length text) Text text) }

pub goes_on : (total : ℕ) (found : List Lexeme) (context : Context) (b : ℕ) (bytes : List ℕ) (kind : Option LexKind) (rest : List ℕ) (whole : Lexemes)
    → lexeme_at context b bytes ≡ Ok (kind, rest) → length rest ≤ length bytes → Lexes total found context (b ∷ bytes) whole
    → Lexes total (found ++ at_place (total - length (b ∷ bytes)) kind) (context_behind context kind) rest whole
goes_on total found context b bytes kind rest whole read within lexes = by_steps lexes.steps lexes.enough lexes.same
  where
    by_steps : (n : ℕ) → length (b ∷ bytes) ≤ n → after found (lexed_in n total context (b ∷ bytes)) ≡ whole
        → Lexes total (found ++ at_place (total - length (b ∷ bytes)) kind) (context_behind context kind) rest whole
    by_steps zero few e = absurd (omega (arith, few))
    by_steps (suc n) few e = record {
      steps = n;
      enough = omega (arith, few, within);
      same = sym (ap (λ r. after found (r >>= λ first. after (at_place (total - length (b ∷ bytes)) first.0) (lexed_in n total (context_behind context first.0) first.1))) read
          ∙ after-more found (at_place (total - length (b ∷ bytes)) kind) (lexed_in n total (context_behind context kind) rest)) ∙ e;
    }

pub stops_there : (total : ℕ) (found : List Lexeme) (context : Context) (b : ℕ) (bytes : List ℕ) (whole : Lexemes) (stop : Stop)
    → lexeme_at context b bytes ≡ Err stop → Lexes total found context (b ∷ bytes) whole → whole ≡ Err stop
stops_there total found context b bytes whole stop read lexes = by_steps lexes.steps lexes.enough lexes.same
  where
    by_steps : (n : ℕ) → length (b ∷ bytes) ≤ n → after found (lexed_in n total context (b ∷ bytes)) ≡ whole → whole ≡ Err stop
    by_steps zero few e = absurd (omega (arith, few))
    by_steps (suc n) few e =
        sym e ∙ ap (λ r. after found (r >>= λ first. after (at_place (total - length (b ∷ bytes)) first.0) (lexed_in n total (context_behind context first.0) first.1))) read

-- Where the code of a step stops, reading stops.
pub stops_so : (total : ℕ) (found : List Lexeme) (context : Context) (b : ℕ) (bytes : List ℕ) (whole : Lexemes) (stop : Stop)
    → Stops stop (lexeme_at context b bytes) → Lexes total found context (b ∷ bytes) whole → Stops stop whole
stops_so total found context b bytes whole stops.NoMemory read lexes = tt
stops_so total found context b bytes whole (stops.Fault cause left) read lexes = stops_there total found context b bytes whole _ read lexes

pub ended : (total : ℕ) (found : List Lexeme) (context : Context) (whole : Lexemes) → Lexes total found context [] whole → whole ≡ Ok found
ended total found context whole lexes = by_steps lexes.steps lexes.same
  where
    by_steps : (n : ℕ) → after found (lexed_in n total context []) ≡ whole → whole ≡ Ok found
    by_steps zero e = sym e ∙ ap (λ (all : List Lexeme). Ok all) (append-nil found)
    by_steps (suc n) e = sym e ∙ ap (λ (all : List Lexeme). Ok all) (append-nil found)

-- the same where the bytes are known to begin so
pub goes_on_from : (total : ℕ) (found : List Lexeme) (context : Context) (from : List ℕ) (b : ℕ) (bytes : List ℕ) (kind : Option LexKind) (rest : List ℕ) (whole : Lexemes)
    → from ≡ b ∷ bytes → lexeme_at context b bytes ≡ Ok (kind, rest) → length rest ≤ length bytes → Lexes total found context from whole
    → Lexes total (found ++ at_place (total - length from) kind) (context_behind context kind) rest whole
goes_on_from total found context from b bytes kind rest whole begun read within lexes =
    let P : List ℕ → Type 0 = λ from. Lexes total (found ++ at_place (total - length from) kind) (context_behind context kind) rest whole in
    let Q : List ℕ → Type 0 = λ from. Lexes total found context from whole in
    subst P (sym begun) (goes_on total found context b bytes kind rest whole read within (subst Q begun lexes))

pub stops_from : (total : ℕ) (found : List Lexeme) (context : Context) (from : List ℕ) (b : ℕ) (bytes : List ℕ) (whole : Lexemes) (stop : Stop)
    → from ≡ b ∷ bytes → Stops stop (lexeme_at context b bytes) → Lexes total found context from whole → Stops stop whole
stops_from total found context from b bytes whole stop begun read lexes =
    let Q : List ℕ → Type 0 = λ from. Lexes total found context from whole in
    stops_so total found context b bytes whole stop read (subst Q begun lexes)

pub ended_at : (total : ℕ) (found : List Lexeme) (context : Context) (from : List ℕ) (whole : Lexemes) → from ≡ [] → Lexes total found context from whole → whole ≡ Ok found
ended_at total found context from whole none lexes =
    let Q : List ℕ → Type 0 = λ from. Lexes total found context from whole in
    ended total found context whole (subst Q none lexes)
