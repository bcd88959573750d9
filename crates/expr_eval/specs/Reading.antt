-- Reading tokens from the left: a tree and the tokens behind it, or the first fault with the tokens from it on.
use Rattle.std.specs.Prelude.{◌≡◌, ℕ, zero, suc, List, [], ◌∷◌, length, Bool, Option, Some, None, Result, Ok, Err, if◌then◌else◌}
use Rattle.ft_base.specs.Reading.{◌>>=◌}
use Rattle.expr_eval.specs.declared.token.Kind.{Kind}
use Rattle.expr_eval.specs.declared.token.Kind.TheVariants as token
use Rattle.expr_eval.specs.declared.tree.Func.{Func}
use Rattle.expr_eval.specs.declared.tree.Op.{Op}
use Rattle.expr_eval.specs.declared.tree.Op.TheVariants.{Minus}
use Rattle.expr_eval.specs.declared.token.Chain.{Chain}
use Rattle.expr_eval.specs.declared.token.Chain.TheVariants.{Ors, Ands, Sums, Products}
use Rattle.expr_eval.specs.declared.tree.Expr.{Expr}
use Rattle.expr_eval.specs.declared.tree.Expr.TheVariants as tree
use Rattle.expr_eval.specs.declared.fault.Fault.{Fault}
use Rattle.expr_eval.specs.declared.fault.Fault.TheVariants as faults
use Rattle.expr_eval.specs.Grammar.{Sort, Chained, Negation, Comparison, Signed, Item, Group, joins, compares}
use Rattle.expr_eval.specs.Tokens.{kinds}

-- why reading stops, with the tokens from there on
pub data Stop : Type 0 where
  Syntax : List Kind → Stop
  TooDeep : List Kind → Stop

-- what was read, and the tokens behind it
abbrev pub Read : Type 0 → Type 0
Read A = Result (A × List Kind) Stop

-- A sign that passes the test, and the tokens behind it.
abbrev pub sign_if : (Op → Bool) → Op → List Kind → Option (Op × List Kind)
sign_if p o ts = if p o then Some (o, ts) else None

-- the sign at the head, where it passes the test
unfoldable pub sign_at : (Op → Bool) → List Kind → Option (Op × List Kind)
sign_at p [] = None
sign_at p (token.Sign o ∷ ts) = sign_if p o ts
sign_at p (t ∷ ts) = None

-- a reader of one sort of sentence
abbrev pub Reader : Type 0
Reader = List Kind → Read Expr

-- an operand behind a sign, joined to the left side, and what follows
abbrev pub joined_at : (Expr → Reader) → Reader → Expr → List Kind → Option (Op × List Kind) → Read Expr
joined_at others next a ts None = Ok (a, ts)
joined_at others next a ts (Some s) = next s.1 >>= λ x. others (tree.Binary s.0 a x.0) x.1

-- What follows a, joined to it from the left.
abbrev pub others_in : Reader → Chain → ℕ → Expr → Reader
others_in next c zero a ts = Ok (a, ts)
others_in next c (suc fuel) a ts = joined_at (λ b us. others_in next c fuel b us) next a ts (sign_at (joins c) ts)

-- the same with as much fuel as there are tokens
unfoldable pub others_at : Reader → Chain → Expr → Reader
others_at next c a ts = others_in next c (length ts) a ts

-- operands joined by a chain's signs
unfoldable pub chain_at : Reader → Chain → Reader
chain_at next c ts = do
  first ← next ts
  others_at next c first.0 first.1

-- What a level opens reads by these; with None no level is left.
abbrev pub Deeper : Type 0
Deeper = Option (Sort → Reader)

-- behind a sign that opens a level
abbrev pub opened_at : Deeper → Sort → List Kind → Reader
opened_at None s whole ts = Err (TooDeep whole)
opened_at (Some inner) s whole ts = inner s ts

-- the end of a parenthesis
unfoldable pub closed_at : Expr → Reader
closed_at a (token.Close ∷ ts) = Ok (a, ts)
closed_at a ts = Err (Syntax ts)

-- an expression in parentheses
unfoldable pub group_at : (Sort → Reader) → Reader
group_at inner (token.Open ∷ ts) = do
  x ← inner (Chained Ors) ts
  closed_at x.0 x.1
group_at inner ts = Err (Syntax ts)

-- the same as a level of its own, whose fault stands at whole
abbrev pub parens_at : Deeper → List Kind → Reader
parens_at None whole ts = Err (TooDeep whole)
parens_at (Some inner) whole ts = group_at inner ts

-- a function's argument
abbrev pub call_at : Deeper → Func → List Kind → Reader
call_at d f whole ts = do
  x ← parens_at d whole ts
  Ok (tree.Call f x.0, x.1)

-- a number, a text, a property, a function or a parenthesis
unfoldable pub item_at : Deeper → Reader
item_at d [] = Err (Syntax [])
item_at d (token.Number k ∷ ts) = Ok (tree.Num k, ts)
item_at d (token.Text s ∷ ts) = Ok (tree.Text s, ts)
item_at d (token.Property s ∷ ts) = Ok (tree.Prop s, ts)
item_at d (token.Name f ∷ ts) = call_at d f (token.Name f ∷ ts) ts
item_at d (token.Open ∷ ts) = parens_at d (token.Open ∷ ts) (token.Open ∷ ts)
item_at d (token.Close ∷ ts) = Err (Syntax (token.Close ∷ ts))
item_at d (token.Bang ∷ ts) = Err (Syntax (token.Bang ∷ ts))
item_at d (token.Sign o ∷ ts) = Err (Syntax (token.Sign o ∷ ts))
item_at d (token.Bad ∷ ts) = Err (Syntax (token.Bad ∷ ts))

-- an item with minus signs before it
unfoldable pub signed_at : Deeper → Reader
signed_at d (token.Sign Minus ∷ ts) = do
  x ← opened_at d Signed (token.Sign Minus ∷ ts) ts
  Ok (tree.Neg x.0, x.1)
signed_at d ts = item_at d ts

-- what a sum is compared with, if it is
abbrev pub compared_at : Reader → Expr → List Kind → Option (Op × List Kind) → Read Expr
compared_at next a ts None = Ok (a, ts)
compared_at next a ts (Some s) = next s.1 >>= λ x. Ok (tree.Binary s.0 a x.0, x.1)

-- products, and sums of them
abbrev pub product_at : Deeper → Reader
product_at d = chain_at (signed_at d) Products

abbrev pub sum_at : Deeper → Reader
sum_at d = chain_at (product_at d) Sums

-- a sum, or two that are compared
unfoldable pub comparison_at : Deeper → Reader
comparison_at d ts = do
  a ← sum_at d ts
  compared_at (sum_at d) a.0 a.1 (sign_at compares a.1)

-- a comparison with ! before it
unfoldable pub negation_at : Deeper → Reader
negation_at d (token.Bang ∷ ts) = do
  x ← opened_at d Negation (token.Bang ∷ ts) ts
  Ok (tree.Not x.0, x.1)
negation_at d ts = comparison_at d ts

-- the reader of each sort
abbrev pub sort_at : Deeper → Sort → Reader
sort_at d Group = λ ts. parens_at d ts ts
sort_at d Item = item_at d
sort_at d Signed = signed_at d
sort_at d Comparison = comparison_at d
sort_at d Negation = negation_at d
sort_at d (Chained Products) = product_at d
sort_at d (Chained Sums) = sum_at d
sort_at d (Chained Ands) = chain_at (negation_at d) Ands
sort_at d (Chained Ors) = chain_at (chain_at (negation_at d) Ands) Ors

-- What is read with so many levels left.
abbrev pub deeper : ℕ → Deeper
deeper zero = None
deeper (suc n) = Some (λ s. sort_at (deeper n) s)

-- What a function returned is what reading gives, unless memory ran out.
abbrev pub Fails : Fault → Read Expr → Type 0
Fails faults.NoMemory read = Unit {0}
Fails (faults.Syntax tokens) read = read ≡ Err (Syntax (kinds tokens.now))
Fails (faults.TooDeep tokens) read = read ≡ Err (TooDeep (kinds tokens.now))

-- The same of what was read, seen by view.
abbrev pub Gives : {X : Type 0} → (X → Expr × List Kind) → Result X Fault → Read Expr → Type 0
Gives view (Ok x) read = read ≡ Ok (view x)
Gives view (Err e) read = Fails e read

-- The same of a sign, or of none.
abbrev pub GivesSign : {X : Type 0} → (X → Op × List Kind) → Option X → Option (Op × List Kind) → Type 0
GivesSign view (Some x) read = read ≡ Some (view x)
GivesSign view None read = read ≡ None

-- the whole of the tokens
abbrev pub ended_at : Expr → List Kind → Result Expr Stop
ended_at a [] = Ok a
ended_at a (t ∷ ts) = Err (Syntax (t ∷ ts))

-- the tree of all tokens, or why there is none
unfoldable pub whole_at : ℕ → List Kind → Result Expr Stop
whole_at n ts = do
  x ← sort_at (deeper n) (Chained Ors) ts
  ended_at x.0 x.1

-- What a function returned is what the whole reading gives, unless memory ran out.
abbrev pub Stopped : Fault → Result Expr Stop → Type 0
Stopped faults.NoMemory read = Unit {0}
Stopped (faults.Syntax tokens) read = read ≡ Err (Syntax (kinds tokens.now))
Stopped (faults.TooDeep tokens) read = read ≡ Err (TooDeep (kinds tokens.now))

-- The same of a tree.
abbrev pub Whole : Result Expr Fault → Result Expr Stop → Type 0
Whole (Ok a) read = read ≡ Ok a
Whole (Err f) read = Stopped f read
