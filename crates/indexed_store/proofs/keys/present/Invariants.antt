use Rattle.std.specs.Prelude.{◌≡◌, ◌≤◌, take}
use Rattle.ft_machine.specs.Reads.{present}
use Rattle.indexed_store.proofs.keys.present.Given as goal

-- the keys so far are counted
abbrev pub invariant-loop-i : goal.invariant-loop-i
invariant-loop-i l = record {
  counted : l.count ≡ present l.store.space (take l.i l.keys);
  few : l.count ≤ l.i;
}
