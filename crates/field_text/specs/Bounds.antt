-- The ends of an interval of numbers, as texts say them (RediSearch, numeric ranges).
use Rattle.std.specs.Prelude.{◌+ℤ◌, ◌-ℤ◌, ◌-◌, ◌^◌, ◌||◌, ℕ, ℤ, pos, negsuc, List, Bool, codes, int_le, Option, Some, None, option_map, if◌then◌else◌}
use Rattle.ft_base.specs.Names.{is_name}
use Rattle.field_text.specs.Numbers.{number_of}
use Rattle.field_text.specs.declared.bounds.Bound.{Bound}
use Rattle.field_text.specs.declared.bounds.Bound.TheVariants.{Least, Greatest, Exactly}

-- the least and the greatest number of 64 bits
abbrev pub least_number : ℤ
least_number = negsuc (2 ^ 63 - 1)

abbrev pub greatest_number : ℤ
greatest_number = pos (2 ^ 63 - 1)

-- What a text says as an end: `inf`, `+inf` and `-inf` in any case, and numbers as NUMERIC fields have them.
abbrev pub bound_of : List ℕ → Option Bound
bound_of text =
    if is_name text (codes "inf") || is_name text (codes "+inf") then Some Greatest
    else (if is_name text (codes "-inf") then Some Least
    else option_map Exactly (number_of text))

-- The least number of an interval that begins at an end, which may be left out. An infinite end is never left out.
abbrev pub low_of : Bool → Bound → ℤ
low_of excluded Least = least_number
low_of excluded Greatest = greatest_number
low_of excluded (Exactly n) = if excluded then n +ℤ pos 1 else n

-- the greatest number of one that stops at an end
abbrev pub high_of : Bool → Bound → ℤ
high_of excluded Least = least_number
high_of excluded Greatest = greatest_number
high_of excluded (Exactly n) = if excluded then n -ℤ pos 1 else n

-- The numbers from one to another, both included, where there is one. Only these may be no numbers of 64 bits: the low one
-- behind the greatest number, and the high one before the least.
abbrev pub interval_of : ℤ → ℤ → Option (ℤ × ℤ)
interval_of low high = if int_le low high then Some (low, high) else None
