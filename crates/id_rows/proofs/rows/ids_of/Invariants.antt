use Rattle.std.proofs.Common.{◌≡◌, ◌≤◌, length, take}
use Rattle.std.specs.Map.{keys_of}
use Rattle.id_rows.specs.IdRows.{full_rows}
use Rattle.id_rows.proofs.rows.ids_of.Given as goal

abbrev pub invariant-loop-row : goal.invariant-loop-row
invariant-loop-row g l = record {
  first : l.ids.items ≡ keys_of (full_rows g.T.HasId.id_of (take l.row-index l.rows));
  few : length l.ids.items ≤ l.count;
}
