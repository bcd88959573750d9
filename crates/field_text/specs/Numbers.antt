-- The number of a NUMERIC field: a sign or none, then decimal digits, leading zeros among them, with
-- a value of 64 bits. It is laxer than the one spelling of a number in a command.
use Rattle.std.specs.Prelude.{◌==◌, ◌^◌, ℕ, ℤ, pos, neg_ℤ, List, [], ◌∷◌, Option, None, Some, nat_lt, nat_le, if◌then◌else◌}
use Rattle.std.specs.Str.{all_ascii_digits}
use Rattle.std.specs.Str.Parse.{digits_value}

-- the value of one decimal digit or more, and of nothing else
abbrev pub digits_of : List ℕ → Option ℕ
digits_of [] = None
digits_of (d ∷ ds) = if all_ascii_digits (d ∷ ds) then Some (digits_value 10 (d ∷ ds)) else None

-- the number up to 2^63 - 1
abbrev pub positive : Option ℕ → Option ℤ
positive None = None
positive (Some n) = if nat_lt n (2 ^ 63) then Some (pos n) else None

-- the number from -2^63 on
abbrev pub negative : Option ℕ → Option ℤ
negative None = None
negative (Some n) = if nat_le n (2 ^ 63) then Some (neg_ℤ (pos n)) else None

-- the number that a text spells: 43 is a plus sign, 45 a minus sign
abbrev pub number_of : List ℕ → Option ℤ
number_of [] = None
number_of (b ∷ bs) = if b == 43 then positive (digits_of bs) else (if b == 45 then negative (digits_of bs) else positive (digits_of (b ∷ bs)))
