-- What each reducer gives for a group's values of a property (RediSearch, FT.AGGREGATE: REDUCE).
use Rattle.std.specs.Prelude.{ℤ, pos, int_lt, ◌+ℤ◌, List, [], ◌∷◌, length, filter, fold, Bool, Option, None, Some, unwrap_or, if◌then◌else◌}
use Rattle.ft_base.specs.declared.row.Value.{Value}
use Rattle.ft_base.specs.declared.row.Value.TheVariants as value
use Rattle.expr_eval.specs.Values.{is_there, num_or_null, number_of, operand_of, whole}
use Rattle.agg_pipeline.specs.declared.step.ReduceKind.{ReduceKind}
use Rattle.agg_pipeline.specs.declared.step.ReduceKind.TheVariants.{Count, CountDistinct, FirstValue, Max, Min, Sum, ToList}
use Rattle.agg_pipeline.specs.Equal.{value_eq}
use Rattle.agg_pipeline.specs.Groups.{firsts}

-- the number of a Num
abbrev pub number : Value → Option ℤ
number v = number_of (operand_of v)

-- whether a value isn't Null
abbrev pub is_some_value : Value → Bool
is_some_value v = is_there (operand_of v)

-- the distinct values that aren't Null, in order of first appearance
abbrev pub distinct : List Value → List Value
distinct values = firsts value_eq (filter is_some_value values)

-- a sum, and the number of a Num on top
abbrev pub added : ℤ → Value → ℤ
added sum v = sum +ℤ unwrap_or (number v) (pos 0)

-- the exact sum of the Nums
abbrev pub sum_of : List Value → ℤ
sum_of values = fold added (pos 0) values

-- the lesser of two numbers, where there are two
abbrev pub lesser : Option ℤ → Option ℤ → Option ℤ
lesser None n = n
lesser (Some m) None = Some m
lesser (Some m) (Some n) = if int_lt n m then Some n else Some m

-- the greater of two numbers, where there are two
abbrev pub greater : Option ℤ → Option ℤ → Option ℤ
greater None n = n
greater (Some m) None = Some m
greater (Some m) (Some n) = if int_lt m n then Some n else Some m

-- the least of the Nums
abbrev pub least : List Value → Option ℤ
least values = fold (λ n v. lesser n (number v)) None values

-- the greatest of the Nums
abbrev pub greatest : List Value → Option ℤ
greatest values = fold (λ n v. greater n (number v)) None values

-- the first of some values, and Null for none
abbrev pub first_value : List Value → Value
first_value [] = value.Null
first_value (v ∷ values) = v

-- what a reducer gives for a group's values
abbrev pub reduced : ReduceKind → List Value → Value
reduced Count values = value.Num (pos (length values))
reduced CountDistinct values = value.Num (pos (length (distinct values)))
reduced Sum values = num_or_null (whole (sum_of values))
reduced Min values = num_or_null (least values)
reduced Max values = num_or_null (greatest values)
reduced ToList values = value.List (distinct values)
reduced FirstValue values = first_value values
