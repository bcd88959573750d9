-- The values of entries, and where a range splits.
use Rattle.std.specs.Prelude.{ℕ, ◌/◌, Bool, false, cond, not, ◌&&◌, ℤ, pos, int_le, int_lt, List, [], ◌∷◌, length, map, find, count_by, nat_le, nat_lt}
use Rattle.std.specs.List.{list_any}
use Rattle.std.specs.Option.{unwrap_or}
use Rattle.std.specs.Ordering.{int_eq}
use Rattle.posting_block.specs.declared.hits.NumHit.{NumHit}

-- entries: an id and a value each
abbrev pub Entries : Type 0
Entries = List (ℕ × NumHit)

-- the values of entries, in the order of the entries
abbrev pub values : Entries → List ℤ
values es = map (λ e. e.1.value) es

-- whether two of the entries have different values
abbrev pub are_mixed : Entries → Bool
are_mixed [] = false
are_mixed (e ∷ es) = list_any (λ other. not (int_eq other.1.value e.1.value)) es

-- whether a value stands at a place, counted from 0, among the values in rising order
abbrev pub is_nth : ℕ → List ℤ → ℤ → Bool
is_nth place all v = nat_le (count_by (λ w. int_lt w v) all) place && nat_lt place (count_by (λ w. int_le w v) all)

-- the value at a place, counted from 0, of the values in rising order
abbrev pub nth_value : ℕ → List ℤ → ℤ
nth_value place all = unwrap_or (find (is_nth place all) all) (pos 0)

-- the smallest value
abbrev pub smallest : List ℤ → ℤ
smallest all = nth_value 0 all

-- the value in the middle of the values in rising order
abbrev pub median : List ℤ → ℤ
median all = nth_value (length all / 2) all

-- the least value above the smallest: the one behind all that are smallest
abbrev pub second_smallest : List ℤ → ℤ
second_smallest all = nth_value (count_by (λ v. int_le v (smallest all)) all) all

-- The value above the smallest that is nearest to the median, the lower of two equally near. So it
-- is the median where that is above the smallest value, else the least value above the smallest.
abbrev pub cut_of : List ℤ → ℤ
cut_of all = cond (int_lt (smallest all) (median all)) (median all) (second_smallest all)

-- whether a range with these entries splits: it has over 1,024 and two distinct values
abbrev pub splits : Entries → Bool
splits es = nat_lt 1024 (length es) && are_mixed es
