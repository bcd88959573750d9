use Rattle.std.specs.Prelude.{◌≡◌, ◌<◌, ◌≤◌, ◌-◌, ◌^◌, map}
use Rattle.std.specs.List.Sorted.{IsStrictlyIncreasing}
use Rattle.ft_base.specs.Docs.{Doc}
use Rattle.hash_store.specs.Store.{reads_after}
use Rattle.search_exec.specs.Candidates.{about_candidates, in_candidates, MayAsk}
use Rattle.doc_reads.proofs.AskLaws.{IsAsked}
use Rattle.search_exec.proofs.FieldLaws.{AreOffered}
use Rattle.search_exec.proofs.by_field.offer_all.Given as goal

-- The rows of the documents of the ids so far were offered, and these with the documents of the ids from here on are all.
abbrev pub invariant-asking : goal.invariant-asking
invariant-asking g l =
    let held = g.T.Lists.held l.lists in
    record {
      asked : IsAsked (AreOffered l.shape l.key l.fn.first.most l.total l.first.rows) (in_candidates held l.fn.candidates) l.fn.store.space l.from;
      same : about_candidates held l.candidates ≡ about_candidates held l.fn.candidates;
      may_ask : MayAsk held l.candidates l.from;
      most : l.first.most ≡ l.fn.first.most;
      by : l.first.by ≡ l.fn.first.by;
      few : l.total < l.from;
      low : l.from ≤ 2 ^ 62;
      rise : IsStrictlyIncreasing (map (λ (doc : Doc). doc.id) l.fn.store.space);
      bits : l.fn.store.reads < 2 ^ 64;
      reads : l.store ≡ record l.fn.store { reads = reads_after l.fn.store.reads l.total };
      counts : l.fn.steps ≤ l.steps;
    }

abbrev pub decreases-asking : goal.decreases-asking
decreases-asking g l = 2 ^ 62 - l.from
