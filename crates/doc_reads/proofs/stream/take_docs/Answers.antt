use Rattle.std.proofs.Common.{◌≡◌, ◌+◌, ℕ, refl, ap, ◌∙◌, subst, arith}
use Rattle.std.specs.Prelude.{Option, None, Some, IfSome}
use Rattle.std.proofs.lemmas.Bool.Decides.{nat_tests}
use Rattle.ft_machine.specs.Parts.{stream_row}
use Rattle.hash_store.specs.Store.{Store, reads_after}
use Rattle.id_iters.specs.Least.{IsLeastAt, NoneFrom}
use Rattle.id_iters.specs.Sets.{about, in_set}
use Rattle.doc_reads.proofs.AskLaws.{found-still, iter-same, read-on}
use Rattle.doc_reads.proofs.StreamLaws.{taken-ended, taken-next, taken-none}
use Rattle.doc_reads.specs.Ids.{IsAskable, docs_in}
use Rattle.doc_reads.proofs.stream.take_docs.Goals as goal

pub taking-init : goal.taking-init
taking-init g c =
    let held = g.T.Lists.held c.args.lists.now in
    let iter = c.args.iter.now in
    let start = c.args.store.now.reads in
    let bits = c.tell.ensures.bits in
    record {
      taken = taken-none (stream_row c.args.def.now c.args.steps.now) c.args.after c.args.count (docs_in (in_set held iter) c.args.store.now.space) start c.args.rows.now.items c.requires.none bits;
      same = refl {a = about held iter};
      asked = c.requires.walkable.asked;
      rise = c.tell.ensures.rise;
      bits = bits;
      rises = omega arith;
      store = refl;
      counts = omega arith;
    }

pub taking-preserved : goal.taking-preserved
taking-preserved g c =
    let held = g.T.Lists.held c.args.lists.now in
    let has = in_set held c.args.iter.now in
    let row = stream_row c.args.def.now c.args.steps.now in
    let start = c.args.store.now.reads in
    let docs = c.args.store.now.space in
    let id = c.in-Ok-Some.id in
    let was = c.taking.invariant in
    let next = c.in_ok-take_doc.ensures in
    let once : c.take_doc.new.store.reads ≡ reads_after c.taking.store.reads 1 = ap (λ (store : Store). store.reads) next.reads in
    let least : IsLeastAt has (c.taking.last + 1) id = iter-same held c.args.iter.now c.taking.iter (c.taking.last + 1) c.in-Ok-Some.field-0 (Some id) was.same c.in-Ok-Some.field-0-is c.in-Ok-Some.ensures.least in
    record {
      taken = taken-next row c.args.after c.args.count has docs start c.taking.rows.items c.take_doc.new.rows.items c.taking.last id c.taking.store.reads c.take_doc.new.store.reads
          was.rise least (c.requires.walkable.known.stored id least.passes) (grind (arith, nat_tests))
          (λ doc found. next.row doc (found-still c.args.store.now c.taking.store _ id doc was.store found)) once was.taken;
      same = c.in-Ok-Some.ensures.same ∙ was.same;
      asked = subst (λ (answer : Option ℕ). IfSome answer (IsAskable held c.next_id.new.iter)) c.in-Ok-Some.field-0-is c.in-Ok-Some.ensures.asked;
      rise = was.rise;
      bits = was.bits;
      rises = omega (arith, once, was.rises, was.bits);
      store = read-on c.args.store.now c.taking.store c.take_doc.new.store _ was.store next.reads;
      counts = omega (arith, c.next_id.ensures.counts, was.counts);
    }

pub returns-in-Ok-None : goal.returns-in-Ok-None
returns-in-Ok-None g c =
    let held = g.T.Lists.held c.args.lists.now in
    let has = in_set held c.args.iter.now in
    let was = c.taking.invariant in
    let none : NoneFrom has (c.taking.last + 1) = iter-same held c.args.iter.now c.taking.iter (c.taking.last + 1) c.in-Ok-None.field-0 None was.same c.in-Ok-None.field-0-is c.in-Ok-None.ensures.least in
    let read = taken-ended (stream_row c.args.def.now c.args.steps.now) c.args.after c.args.count has c.args.store.now.space c.args.store.now.reads c.taking.rows.items c.taking.last c.taking.store.reads (λ wanted. none) was.taken in
    record {
      rows = read.made;
      after = read.after_last;
      reads = read.count;
      rises = was.rises;
      same = was.store;
      counts = omega (arith, c.next_id.ensures.counts, was.counts);
    }

pub returns-after-taking : goal.returns-after-taking
returns-after-taking g c =
    let has = in_set (g.T.Lists.held c.args.lists.now) c.args.iter.now in
    let was = c.taking.invariant in
    let read = taken-ended (stream_row c.args.def.now c.args.steps.now) c.args.after c.args.count has c.args.store.now.space c.args.store.now.reads c.taking.rows.items c.taking.last c.taking.store.reads
    (λ wanted. absurd (grind (arith, nat_tests))) was.taken in
    record {
      rows = read.made;
      after = read.after_last;
      reads = read.count;
      rises = was.rises;
      same = was.store;
      counts = was.counts;
    }
