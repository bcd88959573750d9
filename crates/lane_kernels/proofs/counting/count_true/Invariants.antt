use Rattle.std.proofs.Common.{◌≡◌, take}
use Rattle.std.specs.Prelude.{count_by}
use Rattle.lane_kernels.proofs.counting.count_true.Given as goal

abbrev pub invariant-flags : goal.invariant-flags
invariant-flags l = l.count ≡ count_by (λ flag. flag) (take l.flag-index l.flags)
