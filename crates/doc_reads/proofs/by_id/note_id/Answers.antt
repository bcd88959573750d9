use Rattle.std.proofs.Common.{arith}
use Rattle.std.proofs.lemmas.Grind.{common_steps}
use Rattle.doc_reads.proofs.by_id.note_id.Goals as goal

pub returns-then-not-shows_next-clause-shown : goal.returns-then-not-shows_next-clause-shown
returns-then-not-shows_next-clause-shown c = grind (arith, common_steps)

pub returns-then-shape-clause-shown : goal.returns-then-shape-clause-shown
returns-then-shape-clause-shown c = grind (arith, common_steps)
