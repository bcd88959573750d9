use Rattle.std.proofs.Common.{◌≡◌}
use Rattle.inverted_list.specs.Listing.{last_id}
use Rattle.leaf_rows.proofs.lists.postings.list_of.Given as goal

-- the last id so far
abbrev pub invariant-ids : goal.invariant-ids
invariant-ids l = last_id 0 l.list.entries ≡ l.last
