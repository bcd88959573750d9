use Rattle.std.proofs.Common.{arith}
use Rattle.std.proofs.lemmas.Grind.{common_steps}
use Rattle.search_exec.proofs.replied_rows.copy_cells.Goals as goal

pub copying-preserved : goal.copying-preserved
copying-preserved c = grind (arith, common_steps)

pub returns : goal.returns
returns c = grind (arith, common_steps)
