use mir.Val.{of_z, to_z}
use Rattle.std.proofs.Common.{◌≡◌, sym, ap, ◌∙◌, rules, w64}
use Rattle.expr_eval.specs.Values.{Number, Bytes}
use Rattle.expr_eval.proofs.LeafLaws.{number_at, text_at}
use Rattle.expr_eval.proofs.evaluator.leaf.Goals as goal

pub returns-in-Num-clause-value : goal.returns-in-Num-clause-value
returns-in-Num-clause-value c =
    let same : to_z w64 (of_z w64 c.in-Num.number) ≡ c.in-Num.number = search rules in
    ap Number same ∙ sym (number_at c.args.at.now c.args.expr.now c.in-Num.number c.in-Num.is)

pub returns-in-Text-clause-value : goal.returns-in-Text-clause-value
returns-in-Text-clause-value c = ap Bytes c.as_slice.ensures ∙ sym (text_at c.args.at.now c.args.expr.now c.in-Text.text c.in-Text.is)
