use Rattle.std.proofs.Common.{◌≡◌, ◌-◌, ◌≤◌, length, take}
use Rattle.std.specs.Str.{str_to_ascii_lowercase}
use Rattle.lane_kernels.proofs.lowering.lower_into.Given as goal

abbrev pub invariant-lanes : goal.invariant-lanes
invariant-lanes l =
    (take l.i l.out ≡ str_to_ascii_lowercase (take l.i l.text)) × (length l.out ≡ length l.text) × (l.i ≤ length l.text)

abbrev pub decreases-lanes : goal.decreases-lanes
decreases-lanes l = length l.text - l.i
