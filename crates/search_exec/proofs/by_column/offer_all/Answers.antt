use Rattle.std.proofs.Common.{◌+◌, ℕ, refl, ap, ◌∙◌, subst, arith}
use Rattle.std.specs.Prelude.{Option, None, IfSome}
use Rattle.row_sort.specs.First.{First}
use Rattle.doc_reads.proofs.AskLaws.{asked-ended, asked-none}
use Rattle.search_exec.proofs.CandidatesLaws.{answer-same, least-next, live-candidate}
use Rattle.search_exec.proofs.ColumnLaws.{ranked-asked, ranked-none}
use Rattle.search_exec.specs.Candidates.{about_candidates, in_candidates, MayAsk}
use Rattle.search_exec.specs.Ranks.{AreRanked}
use Rattle.search_exec.proofs.by_column.offer_all.Goals as goal

pub asking-init : goal.asking-init
asking-init g c =
    let held = g.T.Lists.held c.args.lists.now in
    let number = λ (id : ℕ). (g.T.Lists.named c.args.lists.now).numbers id c.args.column in
    let first = c.args.candidates.now in
    let offered = c.args.first.now in
    record {
      asked =
          λ docs rise known.
          asked-none (AreRanked number offered.by offered.most 0 offered.rows) (in_candidates held first) docs
          (λ id has_it. c.requires.lists.above id (live-candidate held first id has_it)) (ranked-none number offered.by offered.most offered.rows c.requires.none);
      same = refl {a = about_candidates held first};
      may_ask = c.requires.ready;
      most = refl;
      by = refl;
      few = omega arith;
      low = omega arith;
      counts = omega arith;
    }

pub asking-preserved : goal.asking-preserved
asking-preserved g c =
    let held = g.T.Lists.held c.args.lists.now in
    let number = λ (id : ℕ). (g.T.Lists.named c.args.lists.now).numbers id c.args.column in
    let first = c.args.candidates.now in
    let has = in_candidates held first in
    let offered = c.args.first.now in
    let id = c.in-Some.id in
    let was = c.asking.invariant in
    let least = least-next held first c.asking.candidates c.asking.from id c.in_ok-id.field-0 was.same c.in-Some.is c.in_ok-id.ensures.least in
    record {
      asked =
          λ docs rise known.
          ranked-asked number offered.by offered.most c.asking.total c.asking.first c.offer_id.new.first has docs c.asking.from id c.in_ok-offer_id.ensures.rows was.most was.by rise known least
          (was.asked docs rise known);
      same = c.in_ok-id.ensures.same ∙ was.same;
      may_ask = subst (λ (answer : Option ℕ). IfSome answer (λ id. MayAsk held c.seek.new.self (id + 1))) c.in-Some.is c.in_ok-id.ensures.ready;
      most = ap (λ (first : First ℕ). first.most) c.in_ok-offer_id.ensures.rows ∙ was.most;
      by = ap (λ (first : First ℕ). first.by) c.in_ok-offer_id.ensures.rows ∙ was.by;
      few = omega (arith, least.reached, was.few);
      low = omega (arith, c.requires.lists.below id (live-candidate held first id least.passes));
      counts = omega (arith, c.in_ok-id.ensures.counts, was.counts);
    }

pub returns-clause-ids : goal.returns-clause-ids
returns-clause-ids g c docs rise known =
    let held = g.T.Lists.held c.args.lists.now in
    let number = λ (id : ℕ). (g.T.Lists.named c.args.lists.now).numbers id c.args.column in
    let first = c.args.candidates.now in
    asked-ended (AreRanked number c.args.first.now.by c.args.first.now.most c.asking.total c.asking.first.rows) (in_candidates held first) docs c.asking.from
    (answer-same held first c.asking.candidates c.asking.from c.in_ok-id.field-0 None c.asking.invariant.same c.in_default.is c.in_ok-id.ensures.least) (c.asking.invariant.asked docs rise known)
