use Rattle.std.proofs.Common.{ℕ, ◌≡◌, ◌<◌}
use Rattle.doc_table.specs.Pages.{word_at}
use Rattle.doc_table.proofs.pages.first_used.Given as goal

abbrev pub invariant-loop-at : goal.invariant-loop-at
invariant-loop-at l = (k : ℕ) → k < l.at → word_at l.pages k ≡ 0
