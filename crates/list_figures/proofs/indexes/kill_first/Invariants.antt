use Rattle.std.proofs.Common.{◌≡◌}
use Rattle.list_figures.proofs.indexes.kill_first.Given as goal

-- the lists stay
abbrev pub invariant-ids : goal.invariant-ids
invariant-ids l = l.index.lists ≡ l.fn.index.lists
