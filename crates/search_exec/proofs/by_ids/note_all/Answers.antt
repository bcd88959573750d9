use Rattle.std.proofs.Common.{◌≡◌, ◌+◌, ℕ, List, ◌∙◌, subst, arith}
use Rattle.std.specs.Prelude.{Option, None, Some, IfSome}
use Rattle.ft_base.specs.Docs.{Doc}
use Rattle.doc_reads.proofs.AskLaws.{asked-ended, asked-next, found-still, read-on}
use Rattle.search_exec.proofs.CandidatesLaws.{answer-same, least-next, live-candidate}
use Rattle.doc_reads.proofs.PageLaws.{AreShown, reads-told}
use Rattle.search_exec.specs.Candidates.{MayAsk, in_candidates}
use Rattle.doc_reads.specs.Ids.{doc_at, docs_in}
use Rattle.doc_reads.specs.Pages.{Shows}
use Rattle.search_exec.proofs.by_ids.note_all.Goals as goal

pub asking-preserved : goal.asking-preserved
asking-preserved g c =
    let held = g.T.Lists.held c.args.lists.now in
    let has = in_candidates held c.args.candidates.now in
    let docs = c.args.store.now.space in
    let id = c.in-Some.id in
    let least = least-next held c.args.candidates.now c.asking.candidates c.asking.from id c.in_ok-id.field-0 c.asking.invariant.same c.in-Some.is c.in_ok-id.ensures.least in
    let below = c.requires.walkable.lists.below id (live-candidate held c.args.candidates.now id least.passes) in
    let next = c.in_ok-note_id.ensures in
    let noted = λ (shown : List Doc) (doc : Doc) (found : doc_at id docs ≡ Some doc). next.shown shown doc (found-still c.args.store.now c.asking.store _ id doc c.asking.invariant.store found) in
    record {
      asked = asked-next (AreShown c.args.shape.now c.asking.page) (AreShown c.args.shape.now c.note_id.new.page) has docs c.asking.from id c.asking.invariant.rise least (c.requires.walkable.known.stored id least.passes) noted c.asking.invariant.asked;
      same = c.in_ok-id.ensures.same ∙ c.asking.invariant.same;
      may_ask = subst (λ (answer : Option ℕ). IfSome answer (λ id. MayAsk held c.seek.new.self (id + 1))) c.in-Some.is c.in_ok-id.ensures.ready;
      few = omega (arith, next.total, least.reached);
      most = omega (arith, below);
      rise = c.asking.invariant.rise;
      bits = c.asking.invariant.bits;
      reads = next.reads c.args.store.now.reads c.asking.invariant.reads;
      store = read-on c.args.store.now c.asking.store c.note_id.new.store _ c.asking.invariant.store next.same;
      counts = omega (arith, c.in_ok-id.ensures.counts);
    }

pub returns-clause-shown : goal.returns-clause-shown
returns-clause-shown g c =
    let held = g.T.Lists.held c.args.lists.now in
    let first = c.args.candidates.now in
    asked-ended (AreShown c.args.shape.now c.asking.page) (in_candidates held first) c.args.store.now.space c.asking.from
    (answer-same held first c.asking.candidates c.asking.from c.in_ok-id.field-0 None c.asking.invariant.same c.in_default.is c.in_ok-id.ensures.least) c.asking.invariant.asked

pub returns-clause-reads : goal.returns-clause-reads
returns-clause-reads g c =
    let held = g.T.Lists.held c.args.lists.now in
    let first = c.args.candidates.now in
    let docs = docs_in (in_candidates held first) c.args.store.now.space in
    let shows : Shows c.args.shape.now docs c.asking.page = asked-ended (AreShown c.args.shape.now c.asking.page) (in_candidates held first) c.args.store.now.space c.asking.from
    (answer-same held first c.asking.candidates c.asking.from c.in_ok-id.field-0 None c.asking.invariant.same c.in_default.is c.in_ok-id.ensures.least) c.asking.invariant.asked in
    reads-told c.args.shape.now c.args.store.now.reads c.asking.store.reads docs c.asking.page c.asking.invariant.reads shows
