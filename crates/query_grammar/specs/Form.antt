-- What the lexemes of a query say, before any field or parameter is looked up. A lexeme stands for itself, a number is
-- the offset of a sign.
use Rattle.std.specs.Prelude.{ℕ, List, Bool, Option}
use Rattle.query_lex.specs.declared.lexeme.Lexeme.{Lexeme}

-- an end of a range: its value, and whether the value itself is left out
pub record Edge : Type 0 where
  pub excluded : Bool
  pub value : Lexeme

-- an attribute: its name and where it stands, and its value, which is missing where the text breaks off
pub record Pair : Type 0 where
  pub at : ℕ
  pub name : List ℕ
  pub value : Option Lexeme

pub data Form : Type 0 where
  -- a word, a prefix, a parameter, a quote or a star
  Single : Lexeme → Form
  -- ( ) and ( .. )
  EmptyGroup : ℕ → Form
  Group : ℕ → Form → Form
  -- - .. and ~ ..
  Denied : ℕ → Form → Form
  Optional : ℕ → Form → Form
  -- @ names : ..
  Named : ℕ → List Lexeme → Form → Form
  -- [ .. .. ] and { .. }
  Range : ℕ → Edge → Edge → Form
  Tags : ℕ → List Lexeme → Form
  -- a part, => and its attributes
  With : Form → ℕ → List Pair → Form
  -- parts side by side; one side of a union; a union and one side more
  Both : Form → Form → Form
  Side : Form → Form
  Either : Form → Form → Form
