use Rattle.std.proofs.Common.{arith}
use Rattle.id_iters.proofs.BitLaws.{lowest_from}
use Rattle.id_iters.proofs.bits.first_from.Goals as goal

pub returns-then-word-ne0-clause-next : goal.returns-then-word-ne0-clause-next
returns-then-word-ne0-clause-next c =
    (lowest_from c.args.start c.args.from c.loop-at.at c.bits_from-word.result c.from.result c.args.words.now c.requires.base c.loop-at.invariant c.bits_from-word.ensures (omega (arith, c.if-word-ne0.true)) c.bits_from-word.type_inv c.from.ensures).1
