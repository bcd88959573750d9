-- The value that is lent, and what reducers see of it.
use Rattle.ft_base.specs.declared.row.Value.{Value}
use Rattle.ft_base.specs.declared.row.Value.TheVariants as value
use Rattle.expr_eval.specs.Values.{Bytes, Nothing, Number, Operand, Several}
use Rattle.agg_pipeline.specs.declared.seen.Seen.{Seen}
use Rattle.agg_pipeline.specs.declared.seen.Seen.TheVariants as lent

-- the value that is lent
abbrev pub seen : Seen → Value
seen lent.Null = value.Null
seen (lent.Num n) = value.Num n
seen (lent.Text text) = value.Text text.now
seen (lent.List values) = value.List values.now

-- what operators, functions and reducers see of it
abbrev pub operand_seen : Seen → Operand
operand_seen lent.Null = Nothing
operand_seen (lent.Num n) = Number n
operand_seen (lent.Text text) = Bytes text.now
operand_seen (lent.List values) = Several
