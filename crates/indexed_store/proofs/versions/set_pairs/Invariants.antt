use Rattle.std.specs.Prelude.{◌≡◌, ◌*◌, drop}
use Rattle.ft_machine.specs.Writes.{set_pairs}
use Rattle.indexed_store.proofs.versions.set_pairs.Given as goal

-- what is left to set gives the whole
abbrev pub invariant-loop-i : goal.invariant-loop-i
invariant-loop-i l = set_pairs l.hash (drop (2 * l.i) l.pairs) ≡ set_pairs l.initial.hash l.pairs
