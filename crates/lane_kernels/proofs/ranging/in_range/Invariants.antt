use Rattle.std.proofs.Common.{◌≡◌, ◌-◌, ◌≤◌, ◌&&◌, length, take, map, int_le}
use Rattle.lane_kernels.proofs.ranging.in_range.Given as goal

abbrev pub invariant-lanes : goal.invariant-lanes
invariant-lanes l =
    (take l.i l.out ≡ map (λ value. int_le l.low value && int_le value l.high) (take l.i l.values)) × (length l.out ≡ length l.values) × (l.i ≤ length l.values)

abbrev pub decreases-lanes : goal.decreases-lanes
decreases-lanes l = length l.values - l.i
