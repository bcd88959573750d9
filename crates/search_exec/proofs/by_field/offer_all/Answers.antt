use Rattle.std.proofs.Common.{◌≡◌, ◌+◌, ◌∷◌, [], ◌++◌, ℕ, List, refl, ap, ◌∙◌, subst, arith}
use Rattle.std.specs.Prelude.{Option, None, Some, IfSome, take}
use Rattle.ft_base.specs.Docs.{Doc}
use Rattle.ft_base.specs.declared.reply.Reply.{Reply}
use Rattle.hash_store.specs.Store.{Store, reads_after}
use Rattle.row_sort.specs.First.{First}
use Rattle.row_sort.specs.Order.{row_order}
use Rattle.row_sort.specs.Sorting.{sorted}
use Rattle.doc_reads.proofs.AskLaws.{asked-ended, asked-next, asked-none, found-still, read-more}
use Rattle.search_exec.proofs.CandidatesLaws.{answer-same, least-next, live-candidate}
use Rattle.search_exec.proofs.FieldLaws.{AreOffered, offered-next, offered-none}
use Rattle.search_exec.specs.Candidates.{about_candidates, in_candidates, MayAsk}
use Rattle.doc_reads.specs.Ids.{doc_at}
use Rattle.search_exec.specs.Ranks.{ranked}
use Rattle.search_exec.proofs.by_field.offer_all.Goals as goal

pub asking-init : goal.asking-init
asking-init g c =
    let held = g.T.Lists.held c.args.lists.now in
    let first = c.args.candidates.now in
    let bits = c.tell.ensures.bits in
    let unread : c.args.store.now.reads ≡ reads_after c.args.store.now.reads 0 = omega (arith, bits) in
    record {
      asked = asked-none (AreOffered c.args.shape.now c.args.key c.args.first.now.most 0 c.args.first.now.rows) (in_candidates held first) c.args.store.now.space
          (λ id has_it. c.requires.walkable.lists.above id (live-candidate held first id has_it)) (offered-none c.args.shape.now c.args.key c.args.first.now.most c.args.first.now.rows c.requires.none);
      same = refl {a = about_candidates held first};
      may_ask = c.requires.walkable.ready;
      most = refl;
      by = refl;
      few = omega arith;
      low = omega arith;
      rise = c.tell.ensures.rise;
      bits = bits;
      reads = ap (λ (reads : ℕ). record c.args.store.now { reads = reads }) unread;
      counts = omega arith;
    }

pub asking-preserved : goal.asking-preserved
asking-preserved g c =
    let held = g.T.Lists.held c.args.lists.now in
    let first = c.args.candidates.now in
    let has = in_candidates held first in
    let shape = c.args.shape.now in
    let key = c.args.key in
    let docs = c.args.store.now.space in
    let most = c.args.first.now.most in
    let id = c.in-Ok-Some.id in
    let was = c.asking.invariant in
    let next = c.in_default.ensures in
    let least = least-next held first c.asking.candidates c.asking.from id c.in-Ok-Some.field-0 was.same c.in-Ok-Some.field-0-is c.in-Ok-Some.ensures.least in
    let taken : (doc : Doc) → doc_at id docs ≡ Some doc
    → c.offer_id.new.first.rows ≡ take c.args.first.now.most (sorted (row_order (key.by ∷ [])) (c.asking.first.rows ++ ranked shape key doc ∷ [])) =
    λ doc found.
    ap (λ (first : First (List Reply)). first.rows) (next.row doc (found-still c.args.store.now c.asking.store _ id doc was.reads found))
    ∙ (ap (λ (most : ℕ). take most (sorted (row_order c.asking.first.by) (c.asking.first.rows ++ ranked shape key doc ∷ []))) was.most
    ∙ ap (λ by. take c.args.first.now.most (sorted (row_order by) (c.asking.first.rows ++ ranked shape key doc ∷ []))) (was.by ∙ c.requires.keys)) in
    record {
      asked = asked-next (AreOffered shape key most c.asking.total c.asking.first.rows) (AreOffered shape key most (c.asking.total + 1) c.offer_id.new.first.rows) has docs c.asking.from id was.rise least
          (c.requires.walkable.known.stored id least.passes)
          (λ (so_far : List Doc) (doc : Doc) (found : doc_at id docs ≡ Some doc). offered-next shape key most c.asking.total c.asking.first.rows c.offer_id.new.first.rows so_far doc (taken doc found)) was.asked;
      same = c.in-Ok-Some.ensures.same ∙ was.same;
      may_ask = subst (λ (answer : Option ℕ). IfSome answer (λ id. MayAsk held c.seek.new.self (id + 1))) c.in-Ok-Some.field-0-is c.in-Ok-Some.ensures.ready;
      most = ap (λ (first : First (List Reply)). first.most) next.rest ∙ was.most;
      by = ap (λ (first : First (List Reply)). first.by) next.rest ∙ was.by;
      few = omega (arith, least.reached, was.few);
      low = omega (arith, c.requires.walkable.lists.below id (live-candidate held first id least.passes));
      rise = was.rise;
      bits = was.bits;
      reads = read-more c.args.store.now c.asking.store c.offer_id.new.store c.asking.total 1 was.reads next.reads;
      counts = omega (arith, c.seek.ensures.counts, was.counts);
    }

pub returns-in-Ok-None-clause-rows : goal.returns-in-Ok-None-clause-rows
returns-in-Ok-None-clause-rows g c =
    let held = g.T.Lists.held c.args.lists.now in
    let first = c.args.candidates.now in
    (asked-ended (AreOffered c.args.shape.now c.args.key c.args.first.now.most c.asking.total c.asking.first.rows) (in_candidates held first) c.args.store.now.space c.asking.from
    (answer-same held first c.asking.candidates c.asking.from c.in-Ok-None.field-0 None c.asking.invariant.same c.in-Ok-None.field-0-is c.in-Ok-None.ensures.least) c.asking.invariant.asked).ranked_first

pub returns-in-Ok-None-clause-total : goal.returns-in-Ok-None-clause-total
returns-in-Ok-None-clause-total g c =
    let held = g.T.Lists.held c.args.lists.now in
    let first = c.args.candidates.now in
    (asked-ended (AreOffered c.args.shape.now c.args.key c.args.first.now.most c.asking.total c.asking.first.rows) (in_candidates held first) c.args.store.now.space c.asking.from
    (answer-same held first c.asking.candidates c.asking.from c.in-Ok-None.field-0 None c.asking.invariant.same c.in-Ok-None.field-0-is c.in-Ok-None.ensures.least) c.asking.invariant.asked).count

pub returns-in-Ok-None-clause-reads : goal.returns-in-Ok-None-clause-reads
returns-in-Ok-None-clause-reads g c =
    let held = g.T.Lists.held c.args.lists.now in
    let first = c.args.candidates.now in
    ap (λ (store : Store). store.reads) c.asking.invariant.reads
    ∙ ap (reads_after c.args.store.now.reads)
    (asked-ended (AreOffered c.args.shape.now c.args.key c.args.first.now.most c.asking.total c.asking.first.rows) (in_candidates held first) c.args.store.now.space c.asking.from
    (answer-same held first c.asking.candidates c.asking.from c.in-Ok-None.field-0 None c.asking.invariant.same c.in-Ok-None.field-0-is c.in-Ok-None.ensures.least) c.asking.invariant.asked).count
