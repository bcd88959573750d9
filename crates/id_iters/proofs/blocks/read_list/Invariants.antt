use Rattle.std.proofs.Common.{◌≤◌, ◌+◌, ◌-◌, ◌^◌, ◌&&◌}
use Rattle.id_iters.specs.Entries.{has_entry}
use Rattle.id_iters.specs.Least.{NoneBetween}
use Rattle.inverted_list.specs.Places.{IsSound}
use Rattle.id_iters.proofs.blocks.read_list.Given as goal

abbrev pub invariant-read : goal.invariant-read
invariant-read g l = record {
  sound : IsSound l.place l.list;
  none : NoneBetween (λ id. (g.T.Lists.held l.lists).live id && has_entry (g.H.HitTest.wants l.test) l.list.entries id) l.from (l.place.last + 1);
  counts : l.fn.steps ≤ l.steps;
}

abbrev pub decreases-read : goal.decreases-read
decreases-read g l = 2 ^ 64 - l.place.last
