use Rattle.std.proofs.Common.{[], ap, arith, refl, rules}
use Rattle.std.proofs.lemmas.List.{nil_from_length}
use Rattle.indexed_store.specs.DefinitionsOf.{definitions_of}
use Rattle.reply_buffer.proofs.Spellings.{ok_written}
use Rattle.ft_engine.proofs.RemovalLaws.{close-prepares, flush-prepares}
use Rattle.ft_engine.proofs.hashes.removals.flush.Goals as goal

pub returns-then-index_count-eq0-clause-prepares : goal.returns-then-index_count-eq0-clause-prepares
returns-then-index_count-eq0-clause-prepares c =
    close-prepares c.args.args.now c.args.held.now _ (ok_written [] _ refl c.set_short.ensures.bytes)
    (nil_from_length c.args.held.now.space (omega (arith, c.len.ensures, c.if-len-eq0.true)))
    (ap definitions_of (nil_from_length c.args.held.now.indexes (omega (arith, c.index_count.ensures, c.if-index_count-eq0.true))))

pub returns-clause-prepares : goal.returns-clause-prepares
returns-clause-prepares c = flush-prepares c.args.args.now c.args.held.now _ (ok_written [] _ refl c.set_short.ensures.bytes) (search rules)
