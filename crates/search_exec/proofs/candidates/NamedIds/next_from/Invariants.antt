use Rattle.std.proofs.Common.{◌≡◌, ◌-◌, length}
use Rattle.search_exec.specs.Candidates.{IsBehind}
use Rattle.search_exec.proofs.candidates.NamedIds.next_from.Given as goal

abbrev pub invariant-passing : goal.invariant-passing
invariant-passing l = record {
  ids : l.self.ids.items ≡ l.fn.self.ids.items;
  behind : IsBehind l.self l.from;
}

abbrev pub decreases-passing : goal.decreases-passing
decreases-passing l = length l.self.ids.items - l.self.behind
