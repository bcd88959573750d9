use Rattle.std.specs.Prelude.{◌≡◌, ◌<◌, ◌≤◌, ◌-◌, ◌^◌, map}
use Rattle.std.specs.List.Sorted.{IsStrictlyIncreasing}
use Rattle.ft_base.specs.Docs.{Doc}
use Rattle.ft_machine.specs.Parts.{stream_row}
use Rattle.id_iters.specs.Sets.{about, in_set}
use Rattle.doc_reads.proofs.StreamLaws.{IsTaken}
use Rattle.doc_reads.specs.Ids.{IsAskable, docs_in}
use Rattle.doc_reads.proofs.stream.take_docs.Given as goal

-- What is taken so far, with what is still to be taken behind the last id, is the whole.
abbrev pub invariant-taking : goal.invariant-taking
invariant-taking g l =
    let held = g.T.Lists.held l.lists in
    record {
      taken : IsTaken (stream_row l.def l.steps) l.fn.after l.count (docs_in (in_set held l.fn.iter) l.fn.store.space) l.fn.store.reads l.rows.items l.last l.store.reads;
      same : about held l.iter ≡ about held l.fn.iter;
      asked : IsAskable held l.iter l.last;
      rise : IsStrictlyIncreasing (map (λ (doc : Doc). doc.id) l.fn.store.space);
      bits : l.fn.store.reads < 2 ^ 64;
      rises : l.fn.store.reads ≤ l.store.reads;
      store : l.store ≡ record l.fn.store { reads = l.store.reads };
      counts : l.fn.counter ≤ l.counter;
    }

abbrev pub decreases-taking : goal.decreases-taking
decreases-taking g l = 2 ^ 62 - l.last
