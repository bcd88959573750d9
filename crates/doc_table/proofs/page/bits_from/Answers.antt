use Rattle.doc_table.proofs.WordLaws.{bits_after}
use Rattle.doc_table.proofs.page.bits_from.Goals as goal

pub returns-then-page-from : goal.returns-then-page-from
returns-then-page-from c = bits_after c.args.page.word c.args.page.number c.args.from c.if-page-from.true
