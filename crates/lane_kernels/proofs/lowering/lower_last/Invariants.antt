use Rattle.std.proofs.Common.{◌≡◌, ◌-◌, ◌≤◌, length, take}
use Rattle.std.specs.Str.{str_to_ascii_lowercase}
use Rattle.lane_kernels.proofs.lowering.lower_last.Given as goal

abbrev pub invariant-bytes : goal.invariant-bytes
invariant-bytes l =
    (take l.i l.out ≡ str_to_ascii_lowercase (take l.i l.text)) × (length l.out ≡ length l.text) × (l.i ≤ length l.text)

abbrev pub decreases-bytes : goal.decreases-bytes
decreases-bytes l = length l.text - l.i
