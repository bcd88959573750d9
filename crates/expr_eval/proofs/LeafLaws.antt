-- What operators see of a number and of a text.
use Rattle.std.proofs.Common.{◌≡◌, ℕ, ℤ, List, sym, ap, ◌∙◌}
use Rattle.ft_base.specs.declared.row.Value.{Value}
use Rattle.expr_eval.specs.Lending.{row_of}
use Rattle.expr_eval.specs.Meaning.{value_step}
use Rattle.expr_eval.specs.Noting.{operand_at}
use Rattle.expr_eval.specs.Values.{Number, Bytes, operand_of}
use Rattle.expr_eval.specs.declared.notes.Context.{Context}
use Rattle.expr_eval.specs.declared.tree.Expr.{Expr}
use Rattle.expr_eval.specs.declared.tree.Expr.TheFolds.{fold-roll-Expr}
use Rattle.expr_eval.specs.declared.tree.Expr.TheOpen as layer
use Rattle.expr_eval.specs.declared.tree.Expr.TheVariants as tree
use Rattle.expr_eval.proofs.LentLaws.{operand-Num, operand-Text}

pub number_at : (at : Context) (expr : Expr) (n : ℤ) → expr ≡ tree.Num n → operand_at at expr ≡ Number n
number_at at expr n is =
    ap (operand_at at) (is ∙ sym (tree.rolls-Num n))
    ∙ ap operand_of (fold-roll-Expr Value (value_step (row_of at.row) at.def.now) (layer.Num n))
    ∙ operand-Num n

pub text_at : (at : Context) (expr : Expr) (text : List ℕ) → expr ≡ tree.Text text → operand_at at expr ≡ Bytes text
text_at at expr text is =
    ap (operand_at at) (is ∙ sym (tree.rolls-Text text))
    ∙ ap operand_of (fold-roll-Expr Value (value_step (row_of at.row) at.def.now) (layer.Text text))
    ∙ operand-Text text
