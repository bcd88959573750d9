-- What the right sides of a chain give, and how deep they are, where one stands last.
use Rattle.std.proofs.Common.{◌≡◌, ℕ, ℤ, ◌<◌, ◌≤◌, List, [], ◌∷◌, ◌++◌, Option, max, refl, sym, ap, subst, ◌∙◌, arith, rules}
use Rattle.expr_eval.specs.Lending.{row_of}
use Rattle.expr_eval.specs.Meaning.{value_of, value_step}
use Rattle.expr_eval.specs.Noting.{operand_at}
use Rattle.expr_eval.specs.RightSides.{joined_on, operand_number}
use Rattle.expr_eval.specs.Values.{Operand, joined, operand_of}
use Rattle.ft_base.specs.declared.row.Value.{Value}
use Rattle.expr_eval.specs.declared.chain.RightSide.{RightSide}
use Rattle.expr_eval.specs.declared.notes.Context.{Context}
use Rattle.expr_eval.specs.declared.tree.Op.{Op}
use Rattle.expr_eval.specs.declared.tree.Expr.{Expr, size-Expr, the_lemmas}
use Rattle.expr_eval.specs.declared.tree.Expr.TheFolds.{fold-roll-Expr}
use Rattle.expr_eval.specs.declared.tree.Expr.TheOpen as layer
use Rattle.expr_eval.specs.declared.tree.Expr.TheVariants as tree
use Rattle.expr_eval.proofs.LentLaws.{operand-number}

-- how deep the deepest right side is
abbrev pub deepest : List RightSide → ℕ
deepest [] = 0
deepest (side ∷ sides) = max (size-Expr side.part.now) (deepest sides)

pub deepest-last : (sides : List RightSide) (side : RightSide) → deepest (sides ++ side ∷ []) ≡ max (deepest sides) (size-Expr side.part.now)
deepest-last [] side = omega arith
deepest-last (s ∷ sides) side = omega (arith, deepest-last sides side)

pub joined_on-last : (at : Context) (sides : List RightSide) (side : RightSide) (n : Option ℤ)
    → joined_on at (sides ++ side ∷ []) n ≡ joined_on at sides (joined side.op (operand_number n) (operand_at at side.part.now))
joined_on-last at [] side n = refl
joined_on-last at (s ∷ sides) side n =
    ap (λ (left : Option ℤ). joined s.op (operand_number left) (operand_at at s.part.now)) (joined_on-last at sides side n)

-- what operators see of an operator's value
pub operand_at-Binary : (at : Context) (op : Op) (left right : Expr)
    → operand_at at (tree.Binary op left right) ≡ operand_number (joined op (operand_at at left) (operand_at at right))
operand_at-Binary at op left right =
    ap operand_of (ap (λ (e : Expr). value_of e (row_of at.row) at.def.now) (sym (tree.rolls-Binary op left right)) ∙ fold-roll-Expr Value (value_step (row_of at.row) at.def.now) (layer.Binary op left right))
    ∙ operand-number (joined op (operand_at at left) (operand_at at right))

-- the same, where the parts are found to be equal to others
pub binary_at : (at : Context) (expr : Expr) (op : Op) (left right l r : Expr) → expr ≡ tree.Binary op left right → l ≡ left → r ≡ right
    → operand_at at expr ≡ operand_number (joined op (operand_at at l) (operand_at at r))
binary_at at expr op left right l r is is_left is_right =
    ap (operand_at at) is
    ∙ operand_at-Binary at op left right
    ∙ ap (λ (e : Expr). operand_number (joined op (operand_at at e) (operand_at at right))) (sym is_left)
    ∙ ap (λ (e : Expr). operand_number (joined op (operand_at at l) (operand_at at e))) (sym is_right)

left_shallower : (op : Op) (left right : Expr) → size-Expr left < size-Expr (tree.Binary op left right)
left_shallower op left right = search (rules, the_lemmas)

right_shallower : (op : Op) (left right : Expr) → size-Expr right < size-Expr (tree.Binary op left right)
right_shallower op left right = search (rules, the_lemmas)

-- a step down: the left side is itself an operator between two parts, and the right side waits
module _ (at : Context) (old new : List RightSide) (op next : Op) (whole left right part : Expr) (side : RightSide)
    (is_op : side.op ≡ op) (is_part : side.part.now ≡ part)
    (is : whole ≡ tree.Binary next left right) (more : new ≡ old ++ side ∷ []) where
  pub down_same : joined_on at new (joined next (operand_at at left) (operand_at at right)) ≡ joined_on at old (joined op (operand_at at whole) (operand_at at part))
  down_same =
      ap (λ (sides : List RightSide). joined_on at sides (joined next (operand_at at left) (operand_at at right))) more
      ∙ joined_on-last at old side (joined next (operand_at at left) (operand_at at right))
      ∙ ap (λ (o : Operand). joined_on at old (joined side.op o (operand_at at side.part.now))) (sym (operand_at-Binary at next left right))
      ∙ ap (λ (e : Expr). joined_on at old (joined side.op (operand_at at e) (operand_at at side.part.now))) (sym is)
      ∙ ap (λ (o : Op). joined_on at old (joined o (operand_at at whole) (operand_at at side.part.now))) is_op
      ∙ ap (λ (e : Expr). joined_on at old (joined op (operand_at at whole) (operand_at at e))) is_part

  pub down_left : size-Expr left < size-Expr whole
  down_left = subst (λ (e : Expr). size-Expr left < size-Expr e) (sym is) (left_shallower next left right)

  pub down_right : size-Expr right < size-Expr whole
  down_right = subst (λ (e : Expr). size-Expr right < size-Expr e) (sym is) (right_shallower next left right)

  pub down_deepest : deepest new ≡ max (deepest old) (size-Expr part)
  down_deepest = ap deepest more ∙ deepest-last old side ∙ ap (λ (e : Expr). max (deepest old) (size-Expr e)) is_part

module _ (old new : List RightSide) (side : RightSide) (less : old ≡ new ++ side ∷ []) where
  -- a step up: with one right side less, the number joined with it is what the number was
  pub up_same : (at : Context) (n made : Option ℤ) → made ≡ joined side.op (operand_number n) (operand_at at side.part.now)
      → joined_on at new made ≡ joined_on at old n
  up_same at n made is =
      ap (joined_on at new) is
      ∙ sym (joined_on-last at new side n)
      ∙ ap (λ (sides : List RightSide). joined_on at sides n) (sym less)

  up_deepest : deepest old ≡ max (deepest new) (size-Expr side.part.now)
  up_deepest = ap deepest less ∙ deepest-last new side

  pub up_rest : deepest new ≤ deepest old
  up_rest = omega (arith, up_deepest)

  pub up_right : size-Expr side.part.now ≤ deepest old
  up_right = omega (arith, up_deepest)
