-- What a text is answered: its tree, or the first of its faults.
use Rattle.std.specs.Prelude.{◌≡◌, ◌<◌, ◌≤◌, ◌⊎◌, ℕ, List, [], ◌∷◌, ◌++◌, length, Option, Result, Ok, Err, Contains}
use Rattle.ft_base.specs.declared.definition.IndexDef.{IndexDef}
use Rattle.ft_base.specs.declared.query.Param.{Param}
use Rattle.ft_base.specs.declared.query.Query.{Query}
use Rattle.query_lex.specs.Lexemes.{lexemes}
use Rattle.query_lex.specs.declared.fault.LexFault.{LexFault}
use Rattle.query_lex.specs.declared.fault.LexFault.TheVariants as lex_fault
use Rattle.query_lex.specs.declared.lexeme.Lexeme.{Lexeme}
use Rattle.query_grammar.specs.declared.fault.QueryFault.{QueryFault}
use Rattle.query_grammar.specs.declared.fault.QueryFault.TheVariants.{Syntax, UnknownField, WrongKind, NoParam, TooDeep, OutOfScope, NoMemory}
use Rattle.query_grammar.specs.Faults.{faults}
use Rattle.query_grammar.specs.Form.{Form}
use Rattle.query_grammar.specs.Grammar.{IsQuery}
use Rattle.query_grammar.specs.Meaning.{query_of}

-- lexemes begin a sentence of the language
pub record Begins (params : List Param) (seen : List Lexeme) : Type 0 where
  pub more : List Lexeme
  pub form : Option Form
  pub spelled : IsQuery params (seen ++ more) form

-- No sentence begins with front and the lexeme behind it; where none is behind it, front is no sentence.
abbrev pub EndsAt : List Param → List Lexeme → List Lexeme → Type 0
EndsAt params front [] = (form : Option Form) → IsQuery params front form → ⊥
EndsAt params front (t ∷ rest) = Begins params (front ++ t ∷ []) → ⊥

-- the offset of the first lexeme, or the text's length where there is none
abbrev pub place_of : ℕ → List Lexeme → ℕ
place_of end [] = end
place_of end (t ∷ ts) = t.at

-- the offset of a fault, and its number
abbrev pub place : QueryFault → ℕ
place (Syntax at) = at
place (UnknownField at) = at
place (WrongKind at) = at
place (NoParam at) = at
place (TooDeep at) = at
place (OutOfScope at) = at
place NoMemory = 0

abbrev pub number : QueryFault → ℕ
number (Syntax at) = 1
number (UnknownField at) = 2
number (WrongKind at) = 3
number (NoParam at) = 4
number (TooDeep at) = 5
number (OutOfScope at) = 6
number NoMemory = 7

-- by offset, and at one offset by number
abbrev pub NotAfter : QueryFault → QueryFault → Type 0
NotAfter f g = (place f < place g) ⊎ ((place f ≡ place g) × (number f ≤ number g))

module _ (def : IndexDef) (params : List Param) where
  -- each sentence that begins so has the fault
  abbrev pub IsCertain : List Lexeme → QueryFault → Type 0
  IsCertain seen f = (more : List Lexeme) (form : Option Form) → IsQuery params (seen ++ more) form → Contains (faults def params form) f

  -- The lexemes of a text of so many bytes have a fault: the grammar goes no further, or as far as they go on like a
  -- sentence, every sentence that goes on like them has it.
  pub data HasFault (end : ℕ) (ts : List Lexeme) : QueryFault → Type 0 where
    broken : (front rest : List Lexeme) → ts ≡ front ++ rest → Begins params front → EndsAt params front rest → HasFault end ts (Syntax (place_of end rest))
    certain : (seen rest : List Lexeme) (f : QueryFault) → ts ≡ seen ++ rest → Begins params seen → IsCertain seen f → HasFault end ts f

  -- It is the first that they have.
  pub record IsFault (end : ℕ) (ts : List Lexeme) (f : QueryFault) : Type 0 where
    pub has : HasFault end ts f
    pub first : (g : QueryFault) → HasFault end ts g → NotAfter f g

  -- They are a sentence without a fault, and this is its tree.
  pub record IsMeaning (ts : List Lexeme) (q : Query) : Type 0 where
    pub form : Option Form
    pub spelled : IsQuery params ts form
    pub clean : faults def params form ≡ []
    pub tree : q ≡ query_of def params form

  -- a fault of the lexemes comes before all others
  abbrev pub lex_place : LexFault → ℕ
  lex_place (lex_fault.OpenQuote at) = at
  lex_place (lex_fault.LoneEscape at) = at
  lex_place lex_fault.NoMemory = 0

  -- What a text of these lexemes, or of this lexical fault, may be answered; running out of memory says nothing of it.
  abbrev pub Answers : ℕ → Result (List Lexeme) LexFault → Result Query QueryFault → Type 0
  Answers end lexed (Err NoMemory) = Unit {0}
  Answers end (Ok ts) (Ok q) = IsMeaning ts q
  Answers end (Ok ts) (Err f) = IsFault end ts f
  Answers end (Err stop) (Ok q) = ⊥
  Answers end (Err stop) (Err f) = f ≡ Syntax (lex_place stop)

  -- what a text may be answered
  abbrev pub IsAnswer : List ℕ → Result Query QueryFault → Type 0
  IsAnswer text answer = Answers (length text) (lexemes text) answer
