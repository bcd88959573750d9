-- The value that is lent, and what operators and functions see of it; and the row that is lent.
use Rattle.std.specs.Option.{option_copied}
use Rattle.ft_base.specs.declared.row.Row.{Row}
use Rattle.ft_base.specs.declared.row.Value.{Value}
use Rattle.ft_base.specs.declared.row.Value.TheVariants as value
use Rattle.expr_eval.specs.Values.{Operand, Nothing, Number, Bytes, Several, called, denied, negated, num_or_null}
use Rattle.expr_eval.specs.declared.evaluator.Outer.{Outer}
use Rattle.expr_eval.specs.declared.evaluator.Outer.TheVariants as outer
use Rattle.expr_eval.specs.declared.lent.Lent.{Lent}
use Rattle.expr_eval.specs.declared.lent.Lent.TheVariants as lent
use Rattle.expr_eval.specs.declared.lent_row.LentRow.{LentRow}
use Rattle.expr_eval.specs.declared.seen.Seen.{Seen}
use Rattle.expr_eval.specs.declared.seen.Seen.TheVariants as seen

-- the value that is lent
abbrev pub value_lent : Lent → Value
value_lent lent.Null = value.Null
value_lent (lent.Num n) = value.Num n
value_lent (lent.Text text) = value.Text text.now
value_lent (lent.Made text) = value.Text text
value_lent (lent.List values) = value.List values.now

-- what operators and functions see of it
abbrev pub operand_lent : Lent → Operand
operand_lent lent.Null = Nothing
operand_lent (lent.Num n) = Number n
operand_lent (lent.Text text) = Bytes text.now
operand_lent (lent.Made text) = Bytes text
operand_lent (lent.List values) = Several

-- the value of what a part stands in
abbrev pub outer_value : Outer → Operand → Value
outer_value (outer.Call func) v = called func v
outer_value outer.Not v = value.Num (denied v)
outer_value outer.Neg v = num_or_null (negated v)

-- what is seen without the value
abbrev pub operand_seen : Seen → Operand
operand_seen seen.Nothing = Nothing
operand_seen (seen.Number n) = Number n
operand_seen (seen.Bytes text) = Bytes text.now
operand_seen seen.Several = Several

-- the row that is lent
abbrev pub row_of : LentRow → Row
row_of row = record { doc = option_copied row.doc; cells = row.cells.now }
