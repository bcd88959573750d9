-- Operators and their right sides, on a number that stands to their left.
use Rattle.std.specs.Prelude.{ℤ, List, [], ◌∷◌, Option, Some, None}
use Rattle.expr_eval.specs.Noting.{operand_at}
use Rattle.expr_eval.specs.Values.{Operand, Nothing, Number, joined}
use Rattle.expr_eval.specs.declared.chain.RightSide.{RightSide}
use Rattle.expr_eval.specs.declared.notes.Context.{Context}

-- what operators see of a number, and of Null for none
abbrev pub operand_number : Option ℤ → Operand
operand_number None = Nothing
operand_number (Some n) = Number n

-- the number with all right sides, of which the last stands next to it
abbrev pub joined_on : Context → List RightSide → Option ℤ → Option ℤ
joined_on at [] n = n
joined_on at (side ∷ sides) n = joined side.op (operand_number (joined_on at sides n)) (operand_at at side.part.now)
