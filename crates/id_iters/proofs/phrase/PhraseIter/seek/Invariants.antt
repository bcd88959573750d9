use Rattle.std.proofs.Common.{◌≡◌, ◌≤◌, ◌-◌, ◌^◌, ◌&&◌}
use Rattle.id_iters.specs.Least.{NoneBetween}
use Rattle.id_iters.specs.Leaves.{list_names, phrase_ids}
use Rattle.id_iters.specs.Places.{LeavesReady}
use Rattle.id_iters.proofs.phrase.PhraseIter.seek.Given as goal

abbrev pub invariant-met : goal.invariant-met
invariant-met g l =
    let held = g.T.Lists.held l.lists in
    record {
      same : l.self ≡ record l.fn.self { words = l.self.words };
      names : list_names l.self.words ≡ list_names l.fn.self.words;
      ready : LeavesReady held l.self.words l.next;
      low : l.from ≤ l.next;
      none : NoneBetween (λ id. held.live id && phrase_ids held l.fn.self id) l.from l.next;
      counts : l.fn.steps ≤ l.steps;
    }

abbrev pub decreases-met : goal.decreases-met
decreases-met g l = 2 ^ 64 - l.next
