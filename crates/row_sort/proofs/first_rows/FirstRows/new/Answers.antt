use Rattle.std.proofs.Common.{arith}
use Rattle.std.proofs.lemmas.Grind.{common_steps}
use Rattle.row_sort.proofs.first_rows.FirstRows.new.Goals as goal

pub returns : goal.returns
returns g c = grind (arith, common_steps)
