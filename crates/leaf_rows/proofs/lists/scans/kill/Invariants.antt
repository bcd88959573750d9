use Rattle.std.proofs.Common.{◌≡◌, ℕ, true}
use Rattle.ft_index.specs.Index.{is_live}
use Rattle.leaf_rows.proofs.lists.scans.kill.Given as goal

-- the lists stay, and so does the last id; no id comes to life
abbrev pub invariant-ids : goal.invariant-ids
invariant-ids l = record {
  lists : l.index.lists ≡ l.fn.index.lists;
  last : l.index.table.last ≡ l.fn.index.table.last;
  live : (id : ℕ) → is_live l.index id ≡ true → is_live l.fn.index id ≡ true;
}
