-- Equality of values (RediSearch: GROUPBY, COUNT_DISTINCT, TOLIST): two are equal where they are of one kind and equal,
-- as two Nulls are, and two Lists of equal values. It is tested by spellings, of which no two values have one.
use Rattle.std.specs.Prelude.{ℕ, ◌^◌, List, [], ◌∷◌, ◌++◌, length, map, Bool, true, ◌&&◌, nat_lt}
use Rattle.std.specs.Int.{w64, to_le_bytes, cast_unsigned}
use Rattle.std.specs.List.{list_all}
use Rattle.std.specs.Str.{bytes_eq}
use Rattle.ft_base.specs.Number.{is_i64}
use Rattle.ft_base.specs.Reply.{joined}
use Rattle.ft_base.specs.declared.row.Value.{Value}
use Rattle.ft_base.specs.declared.row.Value.TheFolds.{fold-Value}
use Rattle.ft_base.specs.declared.row.Value.TheOpen as layer

-- a number below 2^64 in eight bytes, the least first
abbrev pub eight_bytes : ℕ → List ℕ
eight_bytes n = to_le_bytes w64 n

-- The spelling of one value, with the spelling of each inner value in its place: a byte for its kind, then the number
-- in eight bytes, or the length in eight bytes and the text, or their count in eight bytes and the values.
abbrev pub spelling_step : layer.Value-F (List ℕ) → List ℕ
spelling_step layer.Null = 0 ∷ []
spelling_step (layer.Num n) = 1 ∷ eight_bytes (cast_unsigned w64 n)
spelling_step (layer.Text text) = 2 ∷ (eight_bytes (length text) ++ text)
spelling_step (layer.List values) = 3 ∷ (eight_bytes (length values) ++ joined values)

-- the spelling of a value
abbrev pub spelled : Value → List ℕ
spelled = fold-Value (List ℕ) spelling_step

-- the spellings of several values, one after another
abbrev pub spelled_all : List Value → List ℕ
spelled_all values = joined (map spelled values)

-- equality of two values
abbrev pub value_eq : Value → Value → Bool
value_eq v w = bytes_eq (spelled v) (spelled w)

-- equality of two lists of values, place by place
abbrev pub values_eq : List Value → List Value → Bool
values_eq vs ws = bytes_eq (spelled_all vs) (spelled_all ws)

-- whether a number has 64 bits, and a length too
abbrev pub fits_step : layer.Value-F Bool → Bool
fits_step layer.Null = true
fits_step (layer.Num n) = is_i64 n
fits_step (layer.Text text) = nat_lt (length text) (2 ^ 64)
fits_step (layer.List values) = nat_lt (length values) (2 ^ 64) && list_all (λ fits. fits) values

-- whether all numbers and lengths of a value have 64 bits, as those of each value that there is
abbrev pub fits : Value → Bool
fits = fold-Value Bool fits_step
