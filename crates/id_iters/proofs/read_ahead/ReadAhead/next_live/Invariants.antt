use Rattle.std.proofs.Common.{◌≡◌, ◌≤◌, ◌-◌, drop, length}
use Rattle.id_iters.specs.Ahead.{live_from}
use Rattle.id_iters.proofs.read_ahead.ReadAhead.next_live.Given as goal

abbrev pub invariant-ids : goal.invariant-ids
invariant-ids g l = record {
  within : l.self-inside.at ≤ length l.self-inside.ids.items;
  same : live_from (g.T.Lists.held l.lists).live l.from (drop l.self-inside.at l.self-inside.ids.items) ≡ live_from (g.T.Lists.held l.lists).live l.from l.fn.self;
}

abbrev pub decreases-ids : goal.decreases-ids
decreases-ids g l = length l.self-inside.ids.items - l.self-inside.at
