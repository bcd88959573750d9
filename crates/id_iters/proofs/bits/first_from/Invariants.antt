use Rattle.std.proofs.Common.{ℕ, ◌<◌}
use Rattle.id_iters.proofs.BitLaws.{IsBare}
use Rattle.id_iters.proofs.bits.first_from.Given as goal

abbrev pub invariant-loop-at : goal.invariant-loop-at
invariant-loop-at l = (k : ℕ) → k < l.at → IsBare l.start l.words l.from k
