-- The orders are total preorders: each is a few orders of std, one behind the other.
use Rattle.std.proofs.Common.{◌≡◌, ℕ, ℤ, pos, Bool, true, false, List, [], ◌∷◌, Ordering, is_lt, refl, subst}
use Rattle.std.specs.Cmp.{IsTotalOrder, IsStrictWeakOrder, then_total, on_total, back_total, int_cmp_total, nat_cmp_total, tied_itself}
use Rattle.std.specs.Cmp.Lexicographic.{slice_cmp, nat_list_cmp_total}
use Rattle.std.specs.Ordering.{int_cmp, nat_cmp, ordering_reverse, ordering_then, then_cmp, on}
use Rattle.std.specs.declared.cmp.Ordering.TheVariants.{Less, Equal, Greater}
use Rattle.std.proofs.lemmas.List.Sorted.{ranks_by}
use Rattle.ft_base.specs.declared.row.Value.{Value}
use Rattle.row_sort.specs.Order.{Key, Number, Bytes, Nothing, key_of, turned, lowered, key_order, value_order, first_value, later_values, values_order, row_order}
use Rattle.row_sort.specs.declared.order.Direction.{Direction}
use Rattle.row_sort.specs.declared.rows.Ranked.{Ranked}

-- which of the three kinds comes first
abbrev kind : Bool → Key → ℕ
kind false (Number n) = 0
kind false (Bytes t) = 1
kind false Nothing = 2
kind true (Number n) = 1
kind true (Bytes t) = 0
kind true Nothing = 2

abbrev number_in : Key → ℤ
number_in (Number n) = n
number_in (Bytes t) = pos 0
number_in Nothing = pos 0

abbrev text_in : Bool → Key → List ℕ
text_in lower (Number n) = []
text_in lower (Bytes t) = lowered lower t
text_in lower Nothing = []

abbrev turned_order : {K : Type 0} → Bool → (K → K → Ordering) → K → K → Ordering
turned_order falls R x y = turned falls (R x y)

-- by kind, then by number, then by text
abbrev in_steps : Bool → Bool → Key → Key → Ordering
in_steps falls lower =
    then_cmp (on (kind falls) nat_cmp)
    (then_cmp (on number_in (turned_order falls int_cmp)) (on (text_in lower) (turned_order falls (slice_cmp nat_cmp))))

then-Equal : (r : Ordering) → ordering_then r Equal ≡ r
then-Equal Less = refl
then-Equal Equal = refl
then-Equal Greater = refl

abbrev direction : Bool → Bool → Direction
direction falls lower = record { descending = falls; lower = lower }

steps_are : (falls lower : Bool) (k l : Key) → in_steps falls lower k l ≡ key_order (direction falls lower) k l
steps_are false lower (Number m) (Number n) = then-Equal (int_cmp m n)
steps_are true lower (Number m) (Number n) = then-Equal (ordering_reverse (int_cmp m n))
steps_are false lower (Number m) (Bytes t) = refl
steps_are true lower (Number m) (Bytes t) = refl
steps_are false lower (Number m) Nothing = refl
steps_are true lower (Number m) Nothing = refl
steps_are false lower (Bytes s) (Number n) = refl
steps_are true lower (Bytes s) (Number n) = refl
steps_are false lower (Bytes s) (Bytes t) = refl
steps_are true lower (Bytes s) (Bytes t) = refl
steps_are false lower (Bytes s) Nothing = refl
steps_are true lower (Bytes s) Nothing = refl
steps_are false lower Nothing (Number n) = refl
steps_are true lower Nothing (Number n) = refl
steps_are false lower Nothing (Bytes t) = refl
steps_are true lower Nothing (Bytes t) = refl
steps_are false lower Nothing Nothing = refl
steps_are true lower Nothing Nothing = refl

turned_total : {K : Type 0} {R : K → K → Ordering} (falls : Bool) → IsTotalOrder R → IsTotalOrder (turned_order falls R)
turned_total false o = o
turned_total true o = subst IsTotalOrder (λ i x y. o.antisymm y x i) (back_total o)

in_steps_total : (falls lower : Bool) → IsTotalOrder (in_steps falls lower)
in_steps_total falls lower =
    then_total (on_total (kind falls) nat_cmp_total)
    (then_total (on_total number_in (turned_total falls int_cmp_total))
    (on_total (text_in lower) (turned_total falls nat_list_cmp_total)))

key_total : (by : Direction) → IsTotalOrder (key_order by)
key_total by =
    subst IsTotalOrder (λ i k l. steps_are by.descending by.lower k l i) (in_steps_total by.descending by.lower)

pub value_total : (by : Direction) → IsTotalOrder (value_order by)
value_total by = on_total key_of (key_total by)

pub value_itself : (by : Direction) (v : Value) → value_order by v v ≡ Equal
value_itself by v = tied_itself (value_total by) v

level : {K : Type 0} → IsTotalOrder {K = K} (λ x y. Equal)
level = record { antisymm = λ x y. refl; trans = λ x y z p q. p; congr = λ x y z p. refl }

pub values_total : (keys : List Direction) → IsTotalOrder (values_order keys)
values_total [] = level
values_total (by ∷ keys) =
    then_total (on_total first_value (value_total by)) (on_total later_values (values_total keys))

pub row_total : {T : Type 0} (keys : List Direction)
    → IsTotalOrder (λ (left right : Ranked T). row_order keys left right)
row_total keys = on_total (λ row. row.values) (values_total keys)

pub row_weak : {T : Type 0} (keys : List Direction) → IsStrictWeakOrder (λ (x y : Ranked T). is_lt (row_order keys x y))
row_weak keys = ranks_by (values_total keys) (λ row. row.values)
