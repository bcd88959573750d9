use Rattle.std.proofs.Common.{◌-◌, ◌+◌, arith}
use Rattle.load_maker.proofs.StepLaws.{documents_grow, documents_whole}
use Rattle.load_maker.proofs.documents.put_documents.Goals as goal

pub loop-i-preserved : goal.loop-i-preserved
loop-i-preserved c =
    let now = c.loop-i in
    record {
      some = omega arith;
      requests = documents_grow (c.args.docs + 1 - now.i) (c.args.docs + 1 - (now.i + 1)) now.i now.rng _ now.out.items _ _ (omega arith) c.in_ok-put_document.ensures.requests c.in_ok-put_document.ensures.next now.invariant.requests;
    }

pub returns : goal.returns
returns c =
    let now = c.loop-i in
    documents_whole (c.args.docs + 1 - now.i) now.i now.rng now.out.items _ (omega arith) now.invariant.requests
