use Rattle.std.proofs.Common.{arith}
use Rattle.std.proofs.lemmas.Grind.{common_steps}
use Rattle.search_exec.proofs.replied_rows.cells_reply.Goals as goal

pub showing-preserved : goal.showing-preserved
showing-preserved c = grind (arith, common_steps)

pub returns : goal.returns
returns c = grind (arith, common_steps)
