-- What operators and functions see of a lent value is what they see of the value.
use Rattle.std.proofs.Common.{◌≡◌, ℤ, List, ℕ, Option, Some, None, sym, ap, ◌∙◌}
use Rattle.ft_base.specs.declared.row.Value.{Value}
use Rattle.ft_base.specs.declared.row.Value.TheFolds.{fold-roll-Value}
use Rattle.ft_base.specs.declared.row.Value.TheOpen as layer
use Rattle.ft_base.specs.declared.row.Value.TheVariants as value
use Rattle.expr_eval.specs.Values.{Operand, Nothing, Number, Bytes, Several, num_or_null, operand_of, operand_step}
use Rattle.expr_eval.specs.Lending.{value_lent, operand_lent}
use Rattle.expr_eval.specs.RightSides.{operand_number}
use Rattle.expr_eval.specs.declared.lent.Lent.{Lent}
use Rattle.expr_eval.specs.declared.lent.Lent.TheVariants as lent

operand-Null : operand_of value.Null ≡ Nothing
operand-Null = ap operand_of (sym value.rolls-Null) ∙ fold-roll-Value Operand operand_step layer.Null

pub operand-Num : (n : ℤ) → operand_of (value.Num n) ≡ Number n
operand-Num n = ap operand_of (sym (value.rolls-Num n)) ∙ fold-roll-Value Operand operand_step (layer.Num n)

pub operand-Text : (text : List ℕ) → operand_of (value.Text text) ≡ Bytes text
operand-Text text = ap operand_of (sym (value.rolls-Text text)) ∙ fold-roll-Value Operand operand_step (layer.Text text)

operand-List : (values : List Value) → operand_of (value.List values) ≡ Several
operand-List values = ap operand_of (sym (value.rolls-List values)) ∙ fold-roll-Value Operand operand_step (layer.List values)

pub operand-lent : (l : Lent) → operand_of (value_lent l) ≡ operand_lent l
operand-lent lent.Null = operand-Null
operand-lent (lent.Num n) = operand-Num n
operand-lent (lent.Text text) = operand-Text text.now
operand-lent (lent.Made text) = operand-Text text
operand-lent (lent.List values) = operand-List values.now

pub operand-number : (n : Option ℤ) → operand_of (num_or_null n) ≡ operand_number n
operand-number None = operand-Null
operand-number (Some n) = operand-Num n
