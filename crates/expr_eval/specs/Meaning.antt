-- What an expression is worth in a row, part by part.
use Rattle.ft_base.specs.declared.definition.IndexDef.{IndexDef}
use Rattle.ft_base.specs.declared.row.Row.{Row}
use Rattle.ft_base.specs.declared.row.Value.{Value}
use Rattle.ft_base.specs.declared.row.Value.TheVariants.{Num, Text}
use Rattle.expr_eval.specs.declared.tree.Expr.{Expr}
use Rattle.expr_eval.specs.declared.tree.Expr.TheFolds.{fold-Expr}
use Rattle.expr_eval.specs.declared.tree.Expr.TheOpen as layer
use Rattle.expr_eval.specs.Properties.{property_value}
use Rattle.expr_eval.specs.Values.{called, denied, joined, negated, num_or_null, operand_of}

-- one part, by the values of the parts in it
abbrev pub value_step : Row → IndexDef → layer.Expr-F Value → Value
value_step row def (layer.Num n) = Num n
value_step row def (layer.Text text) = Text text
value_step row def (layer.Prop name) = property_value name row def
value_step row def (layer.Call func arg) = called func (operand_of arg)
value_step row def (layer.Not arg) = Num (denied (operand_of arg))
value_step row def (layer.Neg arg) = num_or_null (negated (operand_of arg))
value_step row def (layer.Binary op left right) = num_or_null (joined op (operand_of left) (operand_of right))

-- the value of an expression in a row of an index
abbrev pub value_of : Expr → Row → IndexDef → Value
value_of expr row def = fold-Expr Value (value_step row def) expr
