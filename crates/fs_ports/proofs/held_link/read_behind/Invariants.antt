use Rattle.std.proofs.Common.{◌≤◌}
use Rattle.fs_ports.specs.Held.{HandsOn}
use Rattle.fs_ports.proofs.held_link.read_behind.Given as goal

abbrev pub invariant-trying : goal.invariant-trying
invariant-trying g l = record {
  hands : HandsOn g.L.Link l.fn.link l.link l.fn.held l.held;
  stalled : g.L.Link.stalls l.fn.link ≤ g.L.Link.stalls l.link;
}
