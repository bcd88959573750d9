use Rattle.std.proofs.Common.{◌≡◌, ◌+◌, ◌*◌, ◌≤◌, max, length}
use Rattle.expr_eval.specs.Noting.{AreNoted, operand_at}
use Rattle.expr_eval.specs.RightSides.{joined_on}
use Rattle.expr_eval.specs.Values.{joined}
use Rattle.expr_eval.specs.declared.tree.Expr.{size-Expr}
use Rattle.expr_eval.proofs.ChainLaws.{deepest}
use Rattle.expr_eval.proofs.+found.Given as goal

abbrev pub decreases-evaluator::found : goal.decreases-evaluator::found
decreases-evaluator::found l = 8 * size-Expr l.expr.now

abbrev pub decreases-evaluator::within : goal.decreases-evaluator::within
decreases-evaluator::within l = 8 * size-Expr l.part.now + 1

abbrev pub decreases-evaluator::joined_with : goal.decreases-evaluator::joined_with
decreases-evaluator::joined_with l = 8 * size-Expr l.right.now + 1

abbrev pub decreases-chain::joined_up : goal.decreases-chain::joined_up
decreases-chain::joined_up l = 8 * deepest l.sides.items + 2

abbrev pub decreases-evaluator::joined_left : goal.decreases-evaluator::joined_left
decreases-evaluator::joined_left l = 8 * max (size-Expr l.left.now) (size-Expr l.right.now) + 2

abbrev pub decreases-chain::chain_value : goal.decreases-chain::chain_value
decreases-chain::chain_value l = 8 * max (size-Expr l.left.now) (size-Expr l.right.now) + 3

abbrev pub decreases-evaluator::between : goal.decreases-evaluator::between
decreases-evaluator::between l = 8 * max (size-Expr l.left.now) (size-Expr l.right.now) + 4

-- what is left with the right sides so far is the whole, and nothing is deeper than it
abbrev pub invariant-chain::chain_value-down : goal.invariant-chain::chain_value-down
invariant-chain::chain_value-down l = record {
  same : joined_on l.at l.sides.items (joined l.op (operand_at l.at l.left) (operand_at l.at l.right)) ≡ joined l.fn.op (operand_at l.at l.fn.left) (operand_at l.at l.fn.right);
  left : size-Expr l.left ≤ max (size-Expr l.fn.left) (size-Expr l.fn.right);
  right : size-Expr l.right ≤ max (size-Expr l.fn.left) (size-Expr l.fn.right);
  sides : deepest l.sides.items ≤ max (size-Expr l.fn.left) (size-Expr l.fn.right);
}

-- the number so far with the right sides that are left is the whole
abbrev pub invariant-chain::joined_up-up : goal.invariant-chain::joined_up-up
invariant-chain::joined_up-up l = record {
  same : joined_on l.at l.sides.items l.number ≡ joined_on l.at l.fn.sides.items l.fn.first;
  right : deepest l.sides.items ≤ deepest l.fn.sides.items;
  noted : AreNoted l.at l.notes;
}

abbrev pub decreases-chain::joined_up-up : goal.decreases-chain::joined_up-up
decreases-chain::joined_up-up l = length l.sides.items
