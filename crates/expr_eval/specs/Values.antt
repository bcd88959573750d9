-- What the operators and functions of expressions give (RediSearch, FT.AGGREGATE). Where they give nothing else, they
-- give Null.
use Rattle.std.specs.Prelude.{ℕ, ℤ, pos, ◌+ℤ◌, ◌-ℤ◌, ◌*ℤ◌, neg_ℤ, unsigned_abs, List, length, Bool, true, false, ◌&&◌, ◌||◌, not, Option, Some, None, if◌then◌else◌}
use Rattle.std.specs.Cmp.Lexicographic.{slice_cmp}
use Rattle.std.specs.Option.{option_map}
use Rattle.std.specs.Ordering.{int_cmp, int_eq, nat_cmp, is_eq, is_ne, is_le, is_ge, is_lt, is_gt}
use Rattle.std.specs.Str.{str_to_ascii_lowercase, str_to_ascii_uppercase}
use Rattle.std.specs.declared.cmp.Ordering.{Ordering}
use Rattle.ft_base.specs.Number.{is_i64}
use Rattle.ft_base.specs.declared.row.Value.{Value}
use Rattle.ft_base.specs.declared.row.Value.TheFolds.{fold-Value}
use Rattle.ft_base.specs.declared.row.Value.TheOpen as layer
use Rattle.ft_base.specs.declared.row.Value.TheVariants as value
use Rattle.expr_eval.specs.declared.tree.Func.{Func}
use Rattle.expr_eval.specs.declared.tree.Func.TheVariants.{Lower, Upper, Strlen, Abs, Exists}
use Rattle.expr_eval.specs.declared.tree.Op.{Op}
use Rattle.expr_eval.specs.declared.tree.Op.TheVariants.{Or, And, Equal, Differ, AtMost, AtLeast, Below, Above, Plus, Minus, Times}

-- What operators and functions see of a value: nothing of a Null, and of a List only that it is one.
pub data Operand : Type 0 where
  Nothing : Operand
  Number : ℤ → Operand
  Bytes : List ℕ → Operand
  Several : Operand

-- what is seen of one value, whatever is in it
abbrev pub operand_step : layer.Value-F Operand → Operand
operand_step layer.Null = Nothing
operand_step (layer.Num n) = Number n
operand_step (layer.Text text) = Bytes text
operand_step (layer.List values) = Several

-- what is seen of a value
abbrev pub operand_of : Value → Operand
operand_of = fold-Value Operand operand_step

-- the number of a Num
abbrev pub number_of : Operand → Option ℤ
number_of Nothing = None
number_of (Number n) = Some n
number_of (Bytes text) = None
number_of Several = None

-- the bytes of a Text
abbrev pub text_of : Operand → Option (List ℕ)
text_of Nothing = None
text_of (Number n) = None
text_of (Bytes text) = Some text
text_of Several = None

-- a number as a Num, and none as Null
abbrev pub num_or_null : Option ℤ → Value
num_or_null None = value.Null
num_or_null (Some n) = value.Num n

-- a text as a Text, and none as Null
abbrev pub text_or_null : Option (List ℕ) → Value
text_or_null None = value.Null
text_or_null (Some text) = value.Text text

-- a number of 64 bits
abbrev pub whole : ℤ → Option ℤ
whole n = if is_i64 n then Some n else None

-- 1 or 0
abbrev pub one_if : Bool → ℤ
one_if true = pos 1
one_if false = pos 0

-- whether there is a number, other than 0
abbrev pub is_true_number : Option ℤ → Bool
is_true_number None = false
is_true_number (Some n) = not (int_eq n (pos 0))

-- true is a Num other than 0
abbrev pub is_true : Operand → Bool
is_true v = is_true_number (number_of v)

-- whether it isn't Null
abbrev pub is_there : Operand → Bool
is_there Nothing = false
is_there (Number n) = true
is_there (Bytes text) = true
is_there Several = true

-- ---- operators

-- what is worked out of two Nums
abbrev pub of_numbers : (ℤ → ℤ → ℤ) → Option ℤ → Option ℤ → Option ℤ
of_numbers f None n = None
of_numbers f (Some m) None = None
of_numbers f (Some m) (Some n) = whole (f m n)

-- the order of a number and a Num
abbrev pub number_order : ℤ → Operand → Option Ordering
number_order m Nothing = None
number_order m (Number n) = Some (int_cmp m n)
number_order m (Bytes text) = None
number_order m Several = None

-- the order of a text and a Text, by their bytes
abbrev pub text_order : List ℕ → Operand → Option Ordering
text_order s Nothing = None
text_order s (Number n) = None
text_order s (Bytes text) = Some (slice_cmp nat_cmp s text)
text_order s Several = None

-- The order of two Nums, or of two Texts by their bytes. Other values have none: a Null isn't even like a Null.
abbrev pub order_of : Operand → Operand → Option Ordering
order_of Nothing w = None
order_of (Number m) w = number_order m w
order_of (Bytes s) w = text_order s w
order_of Several w = None

-- whether values in this order are so
abbrev pub is_so : Op → Ordering → Bool
is_so Equal order = is_eq order
is_so Differ order = is_ne order
is_so AtMost order = is_le order
is_so AtLeast order = is_ge order
is_so Below order = is_lt order
is_so Above order = is_gt order
is_so op order = false

-- 1 or 0 by the order, where there is one
abbrev pub compared : Op → Option Ordering → Option ℤ
compared op None = None
compared op (Some order) = Some (one_if (is_so op order))

-- what an operator gives between two values
abbrev pub joined : Op → Operand → Operand → Option ℤ
joined Or v w = Some (one_if (is_true v || is_true w))
joined And v w = Some (one_if (is_true v && is_true w))
joined Plus v w = of_numbers ◌+ℤ◌ (number_of v) (number_of w)
joined Minus v w = of_numbers ◌-ℤ◌ (number_of v) (number_of w)
joined Times v w = of_numbers ◌*ℤ◌ (number_of v) (number_of w)
joined op v w = compared op (order_of v w)

-- `!`
abbrev pub denied : Operand → ℤ
denied v = one_if (not (is_true v))

-- the opposite number, where it has 64 bits
abbrev pub negative : Option ℤ → Option ℤ
negative None = None
negative (Some n) = whole (neg_ℤ n)

-- `-` before a value
abbrev pub negated : Operand → Option ℤ
negated v = negative (number_of v)

-- ---- functions

-- the number without its sign, where it has 64 bits
abbrev pub absolute : Option ℤ → Option ℤ
absolute None = None
absolute (Some n) = whole (pos (unsigned_abs n))

-- how many bytes a text has
abbrev pub length_of : Option (List ℕ) → Option ℤ
length_of None = None
length_of (Some text) = whole (pos (length text))

-- what a function gives of a value
abbrev pub called : Func → Operand → Value
called Lower v = text_or_null (option_map str_to_ascii_lowercase (text_of v))
called Upper v = text_or_null (option_map str_to_ascii_uppercase (text_of v))
called Strlen v = num_or_null (length_of (text_of v))
called Abs v = num_or_null (absolute (number_of v))
called Exists v = value.Num (one_if (is_there v))
