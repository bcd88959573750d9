use Rattle.std.proofs.Common.{arith}
use Rattle.std.proofs.lemmas.Grind.{common_steps, elements}
use Rattle.cursor_book.proofs.shelf.earliest_of.Goals as goal

pub loop-cursor-preserved : goal.loop-cursor-preserved
loop-cursor-preserved c = grind (arith, elements)

pub returns : goal.returns
returns c = grind (arith, common_steps)
