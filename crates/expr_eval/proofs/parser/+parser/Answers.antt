use Rattle.std.proofs.Common.{◌∙◌, sym, subst, arith}
use Rattle.expr_eval.specs.Grammar.{operand}
use Rattle.expr_eval.specs.declared.tree.Expr.{Expr}
use Rattle.expr_eval.specs.Reading.{Fails, Read, Reader, sort_at, deeper}
use Rattle.expr_eval.specs.Tokens.{kinds}
use Rattle.expr_eval.proofs.Chains.{others_none, others_joined, others_stop, read_shortens, whole_operand, Shortens}
use Rattle.expr_eval.proofs.parser.+parser.Goals as goal

pub others_of-returns-in-Err-clause-read : goal.others_of-returns-in-Err-clause-read
others_of-returns-in-Err-clause-read t c =
    let next : Reader = sort_at (deeper c.args.levels) (operand c.args.chain) in
    let short : Shortens next = read_shortens c.args.levels (operand c.args.chain) (whole_operand c.args.chain) in
    subst (λ (r : Read Expr). Fails c.in-Err.fault r) c.joining.invariant.same
    (others_stop next c.args.chain short c.joining.tree (kinds c.joining.rest.now) (kinds c.in-Some.after.now) c.in-Some.op c.in-Err.fault c.in-Some.ensures.sign c.in-Err.ensures.read)

pub others_of-joining-preserved : goal.others_of-joining-preserved
others_of-joining-preserved t c =
    let next : Reader = sort_at (deeper c.args.levels) (operand c.args.chain) in
    let short : Shortens next = read_shortens c.args.levels (operand c.args.chain) (whole_operand c.args.chain) in
    let go = others_joined next c.args.chain short c.joining.tree c.in-Ok.joined (kinds c.joining.rest.now) (kinds c.in-Some.after.now) (kinds c.in-Ok.behind.now) c.in-Some.op c.in-Some.ensures.sign c.in-Ok.ensures.read in
    record { same = sym go ∙ c.joining.invariant.same; shorter = omega (arith, c.in-Ok.ensures.shorter, c.in-Some.ensures.shorter, c.joining.invariant.shorter) }

pub others_of-returns-clause-read : goal.others_of-returns-clause-read
others_of-returns-clause-read t c =
    let next : Reader = sort_at (deeper c.args.levels) (operand c.args.chain) in
    let short : Shortens next = read_shortens c.args.levels (operand c.args.chain) (whole_operand c.args.chain) in
    sym c.joining.invariant.same ∙ others_none next c.args.chain short c.joining.tree (kinds c.joining.rest.now) c.in_default.ensures.sign
