use Rattle.std.proofs.Common.{arith}
use Rattle.std.proofs.lemmas.Grind.{common_steps}
use Rattle.search_exec.proofs.replied_rows.+show.Goals as goal

pub push_values-showing-preserved : goal.push_values-showing-preserved
push_values-showing-preserved t c = grind (arith, common_steps)

pub push_values-returns : goal.push_values-returns
push_values-returns t c = grind (arith, common_steps)
