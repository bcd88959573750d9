use Rattle.std.proofs.Common.{◌≡◌, ◌≤◌, ◌-◌, ◌^◌, ◌&&◌}
use Rattle.id_iters.specs.Least.{NoneBetween}
use Rattle.id_iters.specs.Ready.{Ready}
use Rattle.id_iters.specs.Sets.{about, in_set}
use Rattle.search_exec.specs.Candidates.{IsBehind, is_id_of}
use Rattle.search_exec.proofs.candidates.NamedIds.seek.Given as goal

-- up to the next number there is no candidate, and from it on both may be asked
abbrev pub invariant-naming : goal.invariant-naming
invariant-naming g l =
    let held = g.T.Lists.held l.lists in
    record {
      ids : l.self.ids.items ≡ l.fn.self.ids.items;
      same : about held l.iter ≡ about held l.fn.iter;
      low : l.from ≤ l.next;
      ready : Ready held l.iter l.next;
      behind : IsBehind l.self l.next;
      none : NoneBetween (λ id. in_set held l.fn.iter id && is_id_of l.fn.self.ids.items id) l.from l.next;
      counts : l.fn.steps ≤ l.steps;
    }

abbrev pub decreases-naming : goal.decreases-naming
decreases-naming g l = 2 ^ 64 - l.next
