-- What the text of an expression is answered: its tree, or its first fault.
use Rattle.std.specs.Prelude.{◌≡◌, ℕ, List, ◌++◌, length, Result, Ok, Err, Option, Some, None, slice_get}
use Rattle.expr_eval.specs.declared.fault.ExprFault.{ExprFault}
use Rattle.expr_eval.specs.declared.fault.ExprFault.TheVariants.{Syntax, TooDeep, NoMemory}
use Rattle.expr_eval.specs.declared.token.Kind.{Kind}
use Rattle.expr_eval.specs.declared.token.Token.{Token}
use Rattle.expr_eval.specs.declared.tree.Expr.{Expr}
use Rattle.expr_eval.specs.Grammar.{IsExpr, SyntaxAt, TooDeepAt}
use Rattle.expr_eval.specs.Tokens.{kinds, tokens_of}

-- where a token begins, or the end where there is none
abbrev pub at_or : ℕ → Option Token → ℕ
at_or end None = end
at_or end (Some t) = t.at

-- where the token behind the first n begins, or the end of the text
abbrev pub place : List Token → ℕ → ℕ → ℕ
place tokens n end = at_or end (slice_get tokens n)

-- the tokens are parted at an offset, and the parts are so
abbrev pub PartsAt : (List Kind → List Kind → Type 0) → List Token → ℕ → ℕ → Type 0
PartsAt AreSo tokens end at = (front : List Kind) × (rest : List Kind) × (kinds tokens ≡ front ++ rest) × (at ≡ place tokens (length front) end) × AreSo front rest

-- The tokens of a text of so many bytes have this first fault. Running out of memory is none of the text's.
abbrev pub IsFaultOf : ℕ → List Token → ℕ → ExprFault → Type 0
IsFaultOf levels tokens end (Syntax at) = PartsAt (SyntaxAt levels) tokens end at
IsFaultOf levels tokens end (TooDeep at) = PartsAt (TooDeepAt levels) tokens end at
IsFaultOf levels tokens end NoMemory = ⊥

-- what they may be answered; running out of memory says nothing of them
abbrev pub Answers : ℕ → List Token → ℕ → Result Expr ExprFault → Type 0
Answers levels tokens end (Ok a) = IsExpr levels (kinds tokens) a
Answers levels tokens end (Err NoMemory) = Unit {0}
Answers levels tokens end (Err f) = IsFaultOf levels tokens end f

-- how many levels may be open within one another
abbrev pub most_levels : ℕ
most_levels = 32

-- the text spells the tree
abbrev pub IsTree : List ℕ → Expr → Type 0
IsTree text a = IsExpr most_levels (kinds (tokens_of text)) a

-- the text has this first fault
abbrev pub IsFault : List ℕ → ExprFault → Type 0
IsFault text f = IsFaultOf most_levels (tokens_of text) (length text) f

-- what a text may be answered
abbrev pub IsAnswer : List ℕ → Result Expr ExprFault → Type 0
IsAnswer text answer = Answers most_levels (tokens_of text) (length text) answer

-- this tree is answered, unless memory ran out
abbrev pub Answered : Expr → Result Expr ExprFault → Type 0
Answered a (Ok b) = b ≡ a
Answered a (Err NoMemory) = Unit {0}
Answered a (Err (Syntax at)) = ⊥
Answered a (Err (TooDeep at)) = ⊥
