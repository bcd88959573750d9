use Rattle.std.specs.Prelude.{◌≡◌, ◌<◌, ◌≤◌, ◌-◌, ◌^◌, map}
use Rattle.std.specs.List.Sorted.{IsStrictlyIncreasing}
use Rattle.ft_base.specs.Docs.{Doc}
use Rattle.hash_store.specs.Store.{reads_after}
use Rattle.doc_reads.proofs.AskLaws.{IsAsked}
use Rattle.doc_reads.proofs.PageLaws.{AreShown}
use Rattle.search_exec.specs.Candidates.{MayAsk, about_candidates, in_candidates}
use Rattle.doc_reads.specs.Pages.{reads_of}
use Rattle.search_exec.proofs.by_ids.note_all.Given as goal

-- the documents of the ids so far, with those of the ids from here on, are all
abbrev pub invariant-asking : goal.invariant-asking
invariant-asking g l =
    let held = g.T.Lists.held l.lists in
    record {
      asked : IsAsked (AreShown l.shape l.page) (in_candidates held l.fn.candidates) l.fn.store.space l.from;
      same : about_candidates held l.candidates ≡ about_candidates held l.fn.candidates;
      may_ask : MayAsk held l.candidates l.from;
      few : l.page.total < l.from;
      most : l.from ≤ 2 ^ 62;
      rise : IsStrictlyIncreasing (map (λ (doc : Doc). doc.id) l.fn.store.space);
      bits : l.fn.store.reads < 2 ^ 64;
      reads : l.store.reads ≡ reads_after l.fn.store.reads (reads_of l.shape l.page.total);
      store : l.store ≡ record l.fn.store { reads = l.store.reads };
      counts : l.fn.steps ≤ l.steps;
    }

abbrev pub decreases-asking : goal.decreases-asking
decreases-asking g l = 2 ^ 62 - l.from
