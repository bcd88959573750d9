-- The order of rows by the values of keys (RediSearch: SORTBY).
use Rattle.std.specs.Prelude.{ℕ, ℤ, Bool, true, false, List, [], ◌∷◌}
use Rattle.std.specs.Cmp.Lexicographic.{slice_cmp}
use Rattle.std.specs.Ordering.{int_cmp, nat_cmp, ordering_reverse, ordering_then}
use Rattle.std.specs.Str.{str_to_ascii_lowercase}
use Rattle.std.specs.declared.cmp.Ordering.{Ordering}
use Rattle.std.specs.declared.cmp.Ordering.TheVariants.{Less, Equal, Greater}
use Rattle.ft_base.specs.declared.row.Value.{Value}
use Rattle.ft_base.specs.declared.row.Value.TheFolds.{fold-Value}
use Rattle.ft_base.specs.declared.row.Value.TheOpen as layer
use Rattle.ft_base.specs.declared.row.Value.TheVariants as value
use Rattle.row_sort.specs.declared.order.Direction.{Direction}
use Rattle.row_sort.specs.declared.rows.Ranked.{Ranked}

-- What a key sees of a value: nothing of a Null or a List.
pub data Key : Type 0 where
  Number : ℤ → Key
  Bytes : List ℕ → Key
  Nothing : Key

-- what it sees of one value, whatever is in it
abbrev pub key_step : layer.Value-F Key → Key
key_step layer.Null = Nothing
key_step (layer.Num n) = Number n
key_step (layer.Text text) = Bytes text
key_step (layer.List values) = Nothing

-- what it sees of a value
abbrev pub key_of : Value → Key
key_of = fold-Value Key key_step

-- an order, turned round if it falls
abbrev pub turned : Bool → Ordering → Ordering
turned false order = order
turned true order = ordering_reverse order

-- a text, with A to Z lowered if that is asked for
abbrev pub lowered : Bool → List ℕ → List ℕ
lowered false text = text
lowered true text = str_to_ascii_lowercase text

-- Numbers come before texts, and both before the others, which tie. Descending turns the order of numbers and texts.
abbrev pub key_order : Direction → Key → Key → Ordering
key_order by (Number m) (Number n) = turned by.descending (int_cmp m n)
key_order by (Number m) (Bytes t) = turned by.descending Less
key_order by (Number m) Nothing = Less
key_order by (Bytes s) (Number n) = turned by.descending Greater
key_order by (Bytes s) (Bytes t) = turned by.descending (slice_cmp nat_cmp (lowered by.lower s) (lowered by.lower t))
key_order by (Bytes s) Nothing = Less
key_order by Nothing (Number n) = Greater
key_order by Nothing (Bytes t) = Greater
key_order by Nothing Nothing = Equal

-- the order of two values by one key
abbrev pub value_order : Direction → Value → Value → Ordering
value_order by v w = key_order by (key_of v) (key_of w)

-- the first of some values; one that is missing counts as Null
abbrev pub first_value : List Value → Value
first_value [] = value.Null
first_value (v ∷ values) = v

-- those behind it
abbrev pub later_values : List Value → List Value
later_values [] = []
later_values (v ∷ values) = values

-- the order of two lists of values, one for each key: the first key at which they differ decides
abbrev pub values_order : List Direction → List Value → List Value → Ordering
values_order [] vs ws = Equal
values_order (by ∷ keys) vs ws =
    ordering_then (value_order by (first_value vs) (first_value ws))
    (values_order keys (later_values vs) (later_values ws))

-- the order of two rows
abbrev pub row_order : {T : Type 0} → List Direction → Ranked T → Ranked T → Ordering
row_order keys left right = values_order keys left.values right.values
