use Rattle.std.proofs.Common.{◌≡◌, length}
use Rattle.row_sort.specs.Order.{values_order}
use Rattle.row_sort.proofs.rows.compare_values.Given as goal

-- The keys that are left decide as all do.
abbrev pub invariant-keys : goal.invariant-keys
invariant-keys l = values_order l.keys l.lefts l.rights ≡ values_order l.by l.left l.right

abbrev pub decreases-keys : goal.decreases-keys
decreases-keys l = length l.keys
