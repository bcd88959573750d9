use Rattle.std.proofs.Common.{◌≤◌}
use Rattle.expr_eval.specs.declared.tree.Expr.{size-Expr}
use Rattle.expr_eval.proofs.tree.Expr.+drop.Given as goal

-- what is left is no deeper than the whole
abbrev pub invariant-down : goal.invariant-down
invariant-down l = size-Expr l.self ≤ size-Expr l.fn.self
