use Rattle.std.specs.Prelude.{◌≡◌, ◌<◌, ◌≤◌, ◌-◌, ◌^◌, map}
use Rattle.std.specs.List.Sorted.{IsStrictlyIncreasing}
use Rattle.ft_base.specs.Docs.{Doc}
use Rattle.id_iters.specs.Ready.{Ready}
use Rattle.id_iters.specs.Sets.{about, in_set}
use Rattle.search_exec.proofs.AggregateLaws.{IsFed}
use Rattle.doc_reads.proofs.AskLaws.{IsAsked}
use Rattle.search_exec.proofs.aggregate.note_all.Given as goal

-- The feed holds the documents of the ids so far, each of which was read once, and these with those of the ids from here on are all.
abbrev pub invariant-asking : goal.invariant-asking
invariant-asking g l =
    let held = g.T.Lists.held l.lists in
    record {
      asked : IsAsked (IsFed l.fn.feed l.fn.store.reads l.feed l.store.reads) (in_set held l.fn.iter) l.fn.store.space l.from;
      same : about held l.iter ≡ about held l.fn.iter;
      ready_from : Ready held l.iter l.from;
      most : l.from ≤ 2 ^ 62;
      rise : IsStrictlyIncreasing (map (λ (doc : Doc). doc.id) l.fn.store.space);
      bits : l.fn.store.reads < 2 ^ 64;
      rises : l.fn.store.reads ≤ l.store.reads;
      store : l.store ≡ record l.fn.store { reads = l.store.reads };
      counts : l.fn.counter ≤ l.counter;
    }

abbrev pub decreases-asking : goal.decreases-asking
decreases-asking g l = 2 ^ 62 - l.from
