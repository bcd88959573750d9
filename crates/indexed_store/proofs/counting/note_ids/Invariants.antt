use Rattle.std.specs.Prelude.{◌≡◌, ◌≤◌, take, length, vec_capacity}
use Rattle.indexed_store.specs.Counting.{ids_of}
use Rattle.ft_machine.specs.PlainCommands.{most_counted}
use Rattle.indexed_store.proofs.counting.note_ids.Given as goal

-- the ids of the keys so far are noted
abbrev pub invariant-loop-i : goal.invariant-loop-i
invariant-loop-i l = record {
  noted : l.ids.items ≡ ids_of l.store.space (take l.i l.keys);
  few : length l.ids.items ≤ l.i;
  room : most_counted ≤ vec_capacity l.ids;
}
