use Rattle.std.proofs.Common.{◌≡◌, ◌∙◌, Option, Some, None, IfSome, sym}
use Rattle.expr_eval.specs.Lending.{operand_seen}
use Rattle.expr_eval.specs.Values.{Operand}
use Rattle.expr_eval.specs.declared.seen.Seen.{Seen}
use Rattle.expr_eval.proofs.ChainLaws.{binary_at}
use Rattle.expr_eval.proofs.evaluator.small.Goals as goal

seen_as_equal : (seen : Option Seen) (v w : Operand) → v ≡ w → IfSome seen (λ s. operand_seen s ≡ v) → IfSome seen (λ s. operand_seen s ≡ w)
seen_as_equal None v w e h = h
seen_as_equal (Some s) v w e h = h ∙ e

pub returns-in-Binary-clause-value : goal.returns-in-Binary-clause-value
returns-in-Binary-clause-value c =
    seen_as_equal c.pair.result _ _
    (sym (binary_at c.args.at.now c.args.expr.now c.in-Binary.op c.in-Binary.left c.in-Binary.right c.get.result.now c.get-in-Binary.result.now c.in-Binary.is c.get.ensures c.get-in-Binary.ensures))
    c.pair.ensures.value
