use Rattle.std.proofs.Common.{ℕ, ◌<◌}
use Rattle.doc_table.proofs.NextLaws.{IsBare}
use Rattle.doc_table.proofs.pages.first_from.Given as goal

abbrev pub invariant-loop-at : goal.invariant-loop-at
invariant-loop-at l = (k : ℕ) → k < l.at → IsBare l.pages l.from k
