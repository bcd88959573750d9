use Rattle.doc_table.proofs.WordLaws.{bits_after}
use Rattle.id_iters.proofs.bits.bits_from.Goals as goal

pub returns-then-number-from : goal.returns-then-number-from
returns-then-number-from c = bits_after c.args.word c.args.number c.args.from c.if-number-from.true
