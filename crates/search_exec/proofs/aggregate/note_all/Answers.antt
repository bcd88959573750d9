use Rattle.std.proofs.Common.{◌≡◌, ◌<◌, ◌+◌, ◌^◌, ℕ, List, refl, ap, ◌∙◌, subst, arith}
use Rattle.std.specs.Prelude.{Option, None, Some, IfSome}
use Rattle.ft_base.specs.Docs.{Doc}
use Rattle.hash_store.specs.Store.{Store, reads_after}
use Rattle.id_iters.specs.Least.{IsLeastAt}
use Rattle.id_iters.specs.Ready.{Ready}
use Rattle.id_iters.specs.Sets.{about, in_set}
use Rattle.search_exec.proofs.AggregateLaws.{IsFed, fed-next, fed-none}
use Rattle.doc_reads.proofs.AskLaws.{asked-ended, asked-next, asked-none, found-still, iter-same, live-first, read-on}
use Rattle.doc_reads.specs.Ids.{doc_at}
use Rattle.search_exec.proofs.aggregate.note_all.Goals as goal

pub asking-init : goal.asking-init
asking-init g c =
    let held = g.T.Lists.held c.args.lists.now in
    let iter = c.args.iter.now in
    let start = c.args.store.now.reads in
    let bits : start < 2 ^ 64 = c.tell.ensures.bits in
    record {
      asked = asked-none (IsFed c.args.feed.now start c.args.feed.now start) (in_set held iter) c.args.store.now.space
          (λ id has_it. c.requires.walkable.asked.lists.above id (live-first held iter id has_it)) (fed-none c.args.feed.now start bits);
      same = refl {a = about held iter};
      ready_from = c.requires.walkable.asked.ready;
      most = omega arith;
      rise = c.tell.ensures.rise;
      bits = bits;
      rises = omega arith;
      store = refl;
      counts = omega arith;
    }

pub asking-preserved : goal.asking-preserved
asking-preserved g c =
    let held = g.T.Lists.held c.args.lists.now in
    let has = in_set held c.args.iter.now in
    let first = c.args.feed.now in
    let start = c.args.store.now.reads in
    let docs = c.args.store.now.space in
    let id = c.in-Ok-Some.id in
    let was = c.asking.invariant in
    let next = c.in_ok-note_id.ensures in
    let once : c.note_id.new.store.reads ≡ reads_after c.asking.store.reads 1 = ap (λ (store : Store). store.reads) next.reads in
    let least : IsLeastAt has c.asking.from id = iter-same held c.args.iter.now c.asking.iter c.asking.from c.in-Ok-Some.field-0 (Some id) was.same c.in-Ok-Some.field-0-is c.in-Ok-Some.ensures.least in
    let noted = λ (shown : List Doc) (doc : Doc) (found : doc_at id docs ≡ Some doc).
    fed-next first start c.asking.feed c.note_id.new.feed c.asking.store.reads c.note_id.new.store.reads shown doc (next.noted doc (found-still c.args.store.now c.asking.store _ id doc was.store found)) once in
    record {
      asked = asked-next (IsFed first start c.asking.feed c.asking.store.reads) (IsFed first start c.note_id.new.feed c.note_id.new.store.reads) has docs c.asking.from id was.rise least
          (c.requires.walkable.known.stored id least.passes) noted was.asked;
      same = c.in-Ok-Some.ensures.same ∙ was.same;
      ready_from = subst (λ (answer : Option ℕ). IfSome answer (λ id. Ready held c.seek.new.self (id + 1))) c.in-Ok-Some.field-0-is c.in-Ok-Some.ensures.ready;
      most = omega (arith, c.requires.walkable.asked.lists.below id (live-first held c.args.iter.now id least.passes));
      rise = was.rise;
      bits = was.bits;
      rises = omega (arith, once, was.rises, was.bits);
      store = read-on c.args.store.now c.asking.store c.note_id.new.store _ was.store next.reads;
      counts = omega (arith, c.seek.ensures.counts, was.counts);
    }

pub returns-in-Ok-None-clause-noted : goal.returns-in-Ok-None-clause-noted
returns-in-Ok-None-clause-noted g c =
    let held = g.T.Lists.held c.args.lists.now in
    let first = c.args.iter.now in
    (asked-ended (IsFed c.args.feed.now c.args.store.now.reads c.asking.feed c.asking.store.reads) (in_set held first) c.args.store.now.space c.asking.from
    (iter-same held first c.asking.iter c.asking.from c.in-Ok-None.field-0 None c.asking.invariant.same c.in-Ok-None.field-0-is c.in-Ok-None.ensures.least) c.asking.invariant.asked).holds

pub returns-in-Ok-None-clause-reads : goal.returns-in-Ok-None-clause-reads
returns-in-Ok-None-clause-reads g c =
    let held = g.T.Lists.held c.args.lists.now in
    let first = c.args.iter.now in
    (asked-ended (IsFed c.args.feed.now c.args.store.now.reads c.asking.feed c.asking.store.reads) (in_set held first) c.args.store.now.space c.asking.from
    (iter-same held first c.asking.iter c.asking.from c.in-Ok-None.field-0 None c.asking.invariant.same c.in-Ok-None.field-0-is c.in-Ok-None.ensures.least) c.asking.invariant.asked).count
