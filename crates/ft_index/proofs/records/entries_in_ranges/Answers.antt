use Rattle.std.proofs.Common.{◌≡◌, ◌+◌, ℕ, sym, subst, drop}
use Rattle.ft_index.specs.Records.{entries_in_ranges}
use Rattle.ft_index.proofs.RecordsLaws.{counted-next}
use Rattle.ft_index.proofs.records.entries_in_ranges.Goals as goal

pub loop-slot-preserved : goal.loop-slot-preserved
loop-slot-preserved c =
    let ranges = c.args.ranges.now in
    let k = c.loop-slot.slot-index in
    subst (λ (total : ℕ). total + entries_in_ranges (drop (k + 1) ranges) ≡ entries_in_ranges ranges) (sym c.in_ok-total.ensures.1)
    (counted-next ranges k c.slot-item.result c.loop-slot.total c.in_ok-entries_in_slot.field-0 c.loop-slot-test.true (sym c.slot-item.is) c.in_ok-entries_in_slot.ensures.some c.loop-slot.invariant)
