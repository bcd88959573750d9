use Rattle.std.proofs.Common.{◌≡◌}
use Rattle.gc_splice.specs.Growing.{Grows}
use Rattle.inverted_list.specs.Listing.{last_id}
use Rattle.leaf_rows.proofs.lists.splices.append_all.Given as goal

-- the last id so far, and that nothing was taken out
abbrev pub invariant-ids : goal.invariant-ids
invariant-ids l = record {
  last : last_id 0 l.list.entries ≡ l.end;
  grows : Grows l.fn.list l.list;
}
