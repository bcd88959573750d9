use Rattle.std.proofs.Common.{rules, ◌≡◌, ◌<◌, ◌≤◌, ◌+◌, ◌*◌, ◌∙◌, ap, sym, refl, arith}
use Rattle.expr_eval.specs.Noting.{operand_at}
use Rattle.expr_eval.specs.RightSides.{operand_number}
use Rattle.expr_eval.specs.Values.{Operand, joined}
use Rattle.expr_eval.specs.declared.tree.Expr.{size-Expr}
use Rattle.expr_eval.proofs.ChainLaws.{deepest, down_same, down_left, down_right, down_deepest, up_same, up_rest, up_right}
use Rattle.expr_eval.proofs.+found.Goals as goal

pub chain::chain_value-down-preserved : goal.chain::chain_value-down-preserved
chain::chain_value-down-preserved t c =
    let at = c.args.at.now in
    let old = c.down.sides.items in
    let new = c.push.new.self.items in
    let more = c.in_ok-push.ensures.items in
    let is : c.down.left.now ≡ _ = sym c.get.ensures ∙ c.in-Binary.is in
    let left : size-Expr c.in-Binary.next_left < size-Expr c.down.left.now = down_left at old new c.down.op c.in-Binary.next_op c.down.left.now c.in-Binary.next_left c.in-Binary.next_right c.down.right.now _ refl refl is more in
    let right : size-Expr c.in-Binary.next_right < size-Expr c.down.left.now = down_right at old new c.down.op c.in-Binary.next_op c.down.left.now c.in-Binary.next_left c.in-Binary.next_right c.down.right.now _ refl refl is more in
    let sides = down_deepest at old new c.down.op c.in-Binary.next_op c.down.left.now c.in-Binary.next_left c.in-Binary.next_right c.down.right.now _ refl refl is more in
    record {
      same = down_same at old new c.down.op c.in-Binary.next_op c.down.left.now c.in-Binary.next_left c.in-Binary.next_right c.down.right.now _ refl refl is more ∙ c.down.invariant.same;
      left = omega (arith, left, c.down.invariant.left);
      right = omega (arith, right, c.down.invariant.left);
      sides = omega (arith, sides, c.down.invariant.right, c.down.invariant.sides);
    }

pub chain::joined_up-joined_with-requires : goal.chain::joined_up-joined_with-requires
chain::joined_up-joined_with-requires t c =
    let within : size-Expr c.in-Some.side.part.now ≤ deepest c.up.sides.items = up_right c.up.sides.items c.pop.new.self.items c.in-Some.side c.in-Some.ensures.items in
    let deep : size-Expr c.in-Some.side.part.now ≤ deepest c.args.sides.items = omega (arith, within, c.up.invariant.right) in
    let falls : 8 * size-Expr c.in-Some.side.part.now + 1 < 8 * deepest c.args.sides.items + 2 = omega arith in
    search (rules, falls, c.up.invariant.noted)

pub chain::joined_up-up-preserved : goal.chain::joined_up-up-preserved
chain::joined_up-up-preserved t c =
    let old = c.up.sides.items in
    let new = c.pop.new.self.items in
    let at = c.args.at.now in
    let rest : deepest new ≤ deepest old = up_rest old new c.in-Some.side c.in-Some.ensures.items in
    let seen : c.in_ok-number.number ≡ joined c.in-Some.side.op (operand_number c.up.number) (operand_at at c.in-Some.side.part.now)
    = c.in_ok-number.ensures.number ∙ ap (λ (o : Operand). joined c.in-Some.side.op o (operand_at at c.in-Some.side.part.now)) c.of_number.ensures in
    record {
      same = up_same old new c.in-Some.side c.in-Some.ensures.items at c.up.number c.in_ok-number.number seen ∙ c.up.invariant.same;
      right = omega (arith, rest, c.up.invariant.right);
      noted = c.in_ok-number.ensures.noted;
    }
