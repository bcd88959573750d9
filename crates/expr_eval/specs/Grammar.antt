-- The grammar of expressions, on tokens without their places.
use Rattle.std.specs.Prelude.{ℕ, suc, List, [], ◌∷◌, ◌++◌, Bool, true, false, IsTrue, ℤ}
use Rattle.expr_eval.specs.declared.token.Kind.{Kind}
use Rattle.expr_eval.specs.declared.token.Kind.TheVariants as token
use Rattle.expr_eval.specs.declared.tree.Func.{Func}
use Rattle.expr_eval.specs.declared.tree.Op.{Op}
use Rattle.expr_eval.specs.declared.tree.Op.TheVariants.{Or, And, Equal, Differ, AtMost, AtLeast, Below, Above, Plus, Minus, Times}
use Rattle.expr_eval.specs.declared.token.Chain.{Chain}
use Rattle.expr_eval.specs.declared.token.Chain.TheVariants.{Ors, Ands, Sums, Products}
use Rattle.expr_eval.specs.declared.tree.Expr.{Expr}
use Rattle.expr_eval.specs.declared.tree.Expr.TheVariants as tree

-- the sorts of sentences, of which the first is four
pub data Sort : Type 0 where
  Chained : Chain → Sort
  Negation : Sort
  Comparison : Sort
  Signed : Sort
  Item : Sort
  Group : Sort

-- or := and ("||" and)*, and := not ("&&" not)*, sum := prod (("+" | "-") prod)*, prod := neg ("*" neg)*
abbrev pub operand : Chain → Sort
operand Ors = Chained Ands
operand Ands = Negation
operand Sums = Chained Products
operand Products = Signed

-- which signs join the operands of a chain
abbrev pub joins : Chain → Op → Bool
joins Ors Or = true
joins Ands And = true
joins Sums Plus = true
joins Sums Minus = true
joins Products Times = true
joins _ _ = false

-- which signs compare
abbrev pub compares : Op → Bool
compares Equal = true
compares Differ = true
compares AtMost = true
compares AtLeast = true
compares Below = true
compares Above = true
compares _ = false

-- The tokens spell the tree, and open no more than the given number of levels within one another.
pub data Spells : ℕ → Sort → List Kind → Expr → Type 0 where
  one : {n : ℕ} (c : Chain) {ts : List Kind} {a : Expr} → Spells n (operand c) ts a → Spells n (Chained c) ts a
  more : {n : ℕ} (c : Chain) (o : Op) {ts us : List Kind} {a b : Expr} → IsTrue (joins c o)
      → Spells n (Chained c) ts a → Spells n (operand c) us b → Spells n (Chained c) (ts ++ token.Sign o ∷ us) (tree.Binary o a b)
  negated : {n : ℕ} {ts : List Kind} {a : Expr} → Spells n Negation ts a → Spells (suc n) Negation (token.Bang ∷ ts) (tree.Not a)
  plain : {n : ℕ} {ts : List Kind} {a : Expr} → Spells n Comparison ts a → Spells n Negation ts a
  alone : {n : ℕ} {ts : List Kind} {a : Expr} → Spells n (Chained Sums) ts a → Spells n Comparison ts a
  compared : {n : ℕ} (o : Op) {ts us : List Kind} {a b : Expr} → IsTrue (compares o)
      → Spells n (Chained Sums) ts a → Spells n (Chained Sums) us b → Spells n Comparison (ts ++ token.Sign o ∷ us) (tree.Binary o a b)
  minus : {n : ℕ} {ts : List Kind} {a : Expr} → Spells n Signed ts a → Spells (suc n) Signed (token.Sign Minus ∷ ts) (tree.Neg a)
  unsigned : {n : ℕ} {ts : List Kind} {a : Expr} → Spells n Item ts a → Spells n Signed ts a
  number : {n : ℕ} (k : ℤ) → Spells n Item (token.Number k ∷ []) (tree.Num k)
  text : {n : ℕ} (s : List ℕ) → Spells n Item (token.Text s ∷ []) (tree.Text s)
  property : {n : ℕ} (s : List ℕ) → Spells n Item (token.Property s ∷ []) (tree.Prop s)
  call : {n : ℕ} (f : Func) {ts : List Kind} {a : Expr} → Spells n Group ts a → Spells n Item (token.Name f ∷ ts) (tree.Call f a)
  grouped : {n : ℕ} {ts : List Kind} {a : Expr} → Spells n Group ts a → Spells n Item ts a
  group : {n : ℕ} {ts : List Kind} {a : Expr} → Spells n (Chained Ors) ts a → Spells (suc n) Group (token.Open ∷ ts ++ token.Close ∷ []) a

-- A whole expression.
abbrev pub IsExpr : ℕ → List Kind → Expr → Type 0
IsExpr n ts a = Spells n (Chained Ors) ts a

-- The tokens begin an expression of at most n levels.
pub record Begins (n : ℕ) (ts : List Kind) : Type 0 where
  pub others : List Kind
  pub tree : Expr
  pub spells : IsExpr n (ts ++ others) tree

-- No expression of at most n levels begins with front and the first token behind it; where nothing is behind it, front is none.
abbrev pub EndsAt : ℕ → List Kind → List Kind → Type 0
EndsAt n front [] = (a : Expr) → IsExpr n front a → ⊥
EndsAt n front (t ∷ rest) = Begins n (front ++ t ∷ []) → ⊥

-- The first token such that the tokens up to it begin no expression stands at the head of rest.
pub record SyntaxAt (n : ℕ) (front rest : List Kind) : Type 0 where
  pub begins : Begins n front
  pub ends : (m : ℕ) → EndsAt m front rest

-- With the token behind it, front begins an expression of some number of levels.
abbrev pub GoesOn : List Kind → List Kind → Type 0
GoesOn front [] = ⊥
GoesOn front (t ∷ rest) = (m : ℕ) × Begins m (front ++ t ∷ [])

-- The token at the head of rest is the first that opens a level above n.
pub record TooDeepAt (n : ℕ) (front rest : List Kind) : Type 0 where
  pub begins : Begins n front
  pub ends : EndsAt n front rest
  pub goes_on : GoesOn front rest
