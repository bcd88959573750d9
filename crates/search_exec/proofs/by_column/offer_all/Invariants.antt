use Rattle.std.specs.Prelude.{◌≡◌, ◌<◌, ◌≤◌, ◌-◌, ◌^◌, ℕ, List, map}
use Rattle.std.specs.List.Sorted.{IsStrictlyIncreasing}
use Rattle.ft_base.specs.Docs.{Doc}
use Rattle.search_exec.specs.Candidates.{about_candidates, in_candidates, MayAsk}
use Rattle.doc_reads.specs.Ids.{AreKnown}
use Rattle.search_exec.specs.Ranks.{AreRanked}
use Rattle.doc_reads.proofs.AskLaws.{IsAsked}
use Rattle.search_exec.proofs.by_column.offer_all.Given as goal

-- The ids so far were offered, and the documents of these with those of the ids from here on are all.
abbrev pub invariant-asking : goal.invariant-asking
invariant-asking g l =
    let held = g.T.Lists.held l.lists in
    record {
      asked : (docs : List Doc) → IsStrictlyIncreasing (map (λ (doc : Doc). doc.id) docs) → AreKnown (in_candidates held l.fn.candidates) docs
          → IsAsked (AreRanked (λ (id : ℕ). (g.T.Lists.named l.lists).numbers id l.column) l.fn.first.by l.fn.first.most l.total l.first.rows) (in_candidates held l.fn.candidates) docs l.from;
      same : about_candidates held l.candidates ≡ about_candidates held l.fn.candidates;
      may_ask : MayAsk held l.candidates l.from;
      most : l.first.most ≡ l.fn.first.most;
      by : l.first.by ≡ l.fn.first.by;
      few : l.total < l.from;
      low : l.from ≤ 2 ^ 62;
      counts : l.fn.steps ≤ l.steps;
    }

abbrev pub decreases-asking : goal.decreases-asking
decreases-asking g l = 2 ^ 62 - l.from
