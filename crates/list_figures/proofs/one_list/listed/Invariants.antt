use Rattle.std.proofs.Common.{◌≤◌}
use Rattle.inverted_list.specs.Listing.{last_id}
use Rattle.list_figures.proofs.one_list.listed.Given as goal

-- the next id is above all others
abbrev pub invariant-ids : goal.invariant-ids
invariant-ids g l = last_id 0 l.list.entries ≤ l.before
