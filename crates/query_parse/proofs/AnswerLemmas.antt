-- The answer of a text, by what its lexemes give.
use Rattle.std.proofs.Common.{◌≡◌, ◌<◌, ◌≤◌, ℕ, List, [], ◌∷◌, length, Result, Ok, Err, refl, ap, sym, subst, arith}
use Rattle.ft_base.specs.declared.definition.IndexDef.{IndexDef}
use Rattle.ft_base.specs.declared.query.Fields.TheVariants as asked
use Rattle.ft_base.specs.declared.query.Param.{Param}
use Rattle.ft_base.specs.declared.query.Query.{Query}
use Rattle.ft_base.specs.Reading.{◌>>=◌}
use Rattle.query_lex.specs.Gives.{IsFaultOf}
use Rattle.query_lex.specs.Lexemes.{lexemes}
use Rattle.query_lex.specs.declared.fault.LexFault.{LexFault}
use Rattle.query_lex.specs.declared.fault.LexFault.TheVariants as lex_fault
use Rattle.query_lex.specs.declared.lexeme.Lexeme.{Lexeme}
use Rattle.query_lex.specs.Places.{Rise}
use Rattle.query_grammar.specs.declared.fault.QueryFault.{QueryFault}
use Rattle.query_grammar.specs.declared.fault.QueryFault.TheVariants.{Syntax, UnknownField, WrongKind, NoParam, TooDeep, OutOfScope, NoMemory}
use Rattle.query_grammar.specs.Answer.{Answers, IsAnswer}
use Rattle.query_grammar.specs.Faults.{most_levels}
use Rattle.query_grammar.specs.Grammar.{Union}
use Rattle.query_grammar.specs.Meaning.{union_of}
use Rattle.query_grammar.specs.Reading.{Broken, answer_of, ended_at, whole_at}
use Rattle.query_grammar.specs.Reading as reading
use Rattle.query_parse.specs.Answer.{IsRead, lexical, query_read, read_with}
use Rattle.query_parse.specs.declared.stop.Stop.{Stop}
use Rattle.query_parse.specs.Gives.{Stops}
use Rattle.query_parse.specs.Reads.{reads}
use Rattle.query_parse.proofs.StopLemmas.{stops-so}

module _ (def : IndexDef) (params : List Param) where
  -- a fault of the lexemes
  pub lexical-read : (text : List ℕ) (fault : LexFault) → IsFaultOf fault (lexemes text) → IsRead (Err (lexical fault)) (query_read def params text)
  lexical-read text (lex_fault.OpenQuote at) is = ap (read_with def params (length text)) is
  lexical-read text (lex_fault.LoneEscape at) is = ap (read_with def params (length text)) is
  lexical-read text lex_fault.NoMemory is = tt

  pub lexical-answer : (text : List ℕ) (fault : LexFault) → IsFaultOf fault (lexemes text) → IsAnswer def params text (Err (lexical fault))
  lexical-answer text (lex_fault.OpenQuote at) is = subst (λ (lexed : Result (List Lexeme) LexFault). Answers def params (length text) lexed (Err (Syntax at))) (sym is) refl
  lexical-answer text (lex_fault.LoneEscape at) is = subst (λ (lexed : Result (List Lexeme) LexFault). Answers def params (length text) lexed (Err (Syntax at))) (sym is) refl
  lexical-answer text lex_fault.NoMemory is = tt

  -- what reading the lexemes of a text gives is what reading the text gives
  pub lexed-read : (text : List ℕ) (ts : List Lexeme) (answer : Result Query QueryFault) → lexemes text ≡ Ok ts → IsRead answer (answer_of (length text) (whole_at def params ts))
      → IsRead answer (query_read def params text)
  lexed-read text ts answer e is = subst (λ (lexed : Result (List Lexeme) LexFault). IsRead answer (read_with def params (length text) lexed)) (sym e) is

  -- what is read is the answer, where that is a law
  module _ (law : (end : ℕ) (ts : List Lexeme) → Rise 0 end ts → Answers def params end (Ok ts) (answer_of end (whole_at def params ts))) where
    moved : (end : ℕ) (ts : List Lexeme) (answer : Result Query QueryFault) → Rise 0 end ts → answer_of end (whole_at def params ts) ≡ answer → Answers def params end (Ok ts) answer
    moved end ts answer rise e = subst (λ (a : Result Query QueryFault). Answers def params end (Ok ts) a) e (law end ts rise)

    read-answers : (end : ℕ) (ts : List Lexeme) (answer : Result Query QueryFault) → Rise 0 end ts → IsRead answer (answer_of end (whole_at def params ts)) → Answers def params end (Ok ts) answer
    read-answers end ts (Ok q) rise e = moved end ts (Ok q) rise e
    read-answers end ts (Err NoMemory) rise e = tt
    read-answers end ts (Err (Syntax at)) rise e = moved end ts (Err (Syntax at)) rise e
    read-answers end ts (Err (UnknownField at)) rise e = moved end ts (Err (UnknownField at)) rise e
    read-answers end ts (Err (WrongKind at)) rise e = moved end ts (Err (WrongKind at)) rise e
    read-answers end ts (Err (NoParam at)) rise e = moved end ts (Err (NoParam at)) rise e
    read-answers end ts (Err (TooDeep at)) rise e = moved end ts (Err (TooDeep at)) rise e
    read-answers end ts (Err (OutOfScope at)) rise e = moved end ts (Err (OutOfScope at)) rise e

    pub lexed-answer : (text : List ℕ) (ts : List Lexeme) (answer : Result Query QueryFault) → lexemes text ≡ Ok ts → Rise 0 (length text) ts
        → IsRead answer (answer_of (length text) (whole_at def params ts)) → IsAnswer def params text answer
    lexed-answer text ts answer e rise is = subst (λ (lexed : Result (List Lexeme) LexFault). Answers def params (length text) lexed answer) (sym e) (read-answers (length text) ts answer rise is)

  pub whole-read : (ts us : List Lexeme) (sides : List Query) → 0 < length ts → reads def params asked.All most_levels Union ts ≡ Ok (sides, us)
      → whole_at def params ts ≡ ended_at def params sides us
  unfolding whole_at
  whole-read [] us sides some read = absurd (omega (arith, some))
  whole-read (t ∷ ts) us sides some read = ap (λ r. r >>= λ x. ended_at def params x.0 x.1) read

  pub whole-fails : (ts : List Lexeme) (stop : reading.Stop) → 0 < length ts → reads def params asked.All most_levels Union ts ≡ Err stop → whole_at def params ts ≡ Err stop
  unfolding whole_at
  whole-fails [] stop some read = absurd (omega (arith, some))
  whole-fails (t ∷ ts) stop some read = ap (λ r. r >>= λ x. ended_at def params x.0 x.1) read

  pub whole-stops : (ts : List Lexeme) (stop : Stop) → 0 < length ts → Stops stop (reads def params asked.All most_levels Union ts) → Stops stop (whole_at def params ts)
  whole-stops ts stop some stops = stops-so stop (reads def params asked.All most_levels Union ts) (whole_at def params ts) (λ s e. whole-fails ts s some e) stops

  pub ended : (sides : List Query) (us : List Lexeme) → length us < 1 → ended_at def params sides us ≡ Ok (union_of sides)
  ended sides [] none = refl
  ended sides (u ∷ us) none = absurd (omega (arith, none))

  pub goes-on : (sides : List Query) (us : List Lexeme) → 1 ≤ length us → ended_at def params sides us ≡ Err (Broken us)
  goes-on sides [] some = absurd (omega (arith, some))
  goes-on sides (u ∷ us) some = refl
