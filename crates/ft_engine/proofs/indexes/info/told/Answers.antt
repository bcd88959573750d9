use Rattle.std.proofs.Common.{arith}
use Rattle.ft_engine.proofs.ExactLaws.{entries-of}
use Rattle.ft_engine.proofs.InfoLaws.{rising-few, tells-index, told-of}
use Rattle.ft_engine.proofs.indexes.info.told.Goals as goal

pub info_reply-requires-clause-docs : goal.info_reply-requires-clause-docs
info_reply-requires-clause-docs c =
    let kept = c.def.ensures.sound.kept in
    omega (arith, c.docs.ensures, rising-few 0 c.args.index.now.table.live kept.rise, kept.end, c.requires.few)

pub returns : goal.returns
returns c = record {
  tells = tells-index c.args.index.now c.args.cursors c.info_reply.result
      (told-of c.args.index.now c.def.result.now c.lists.result.now c.info_reply.result c.docs.result c.in-Some.records c.failures.result c.args.cursors c.def.ensures.def c.lists.ensures c.docs.ensures c.failures.ensures.count c.in-Some.ensures.least
      c.info_reply.ensures.reply)
      (entries-of c.args.index.now c.def.result.now c.lists.result.now c.info_reply.result (record { docs = c.docs.result; records = c.in-Some.records; failures = c.failures.result; cursors = c.args.cursors }) c.def.ensures.def c.lists.ensures
      c.in-Some.ensures.some c.in-Some.ensures.exact c.info_reply.ensures.reply)
      c.info_reply.ensures.fits;
}
