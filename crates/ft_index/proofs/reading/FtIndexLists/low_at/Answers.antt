use Rattle.std.proofs.Common.{arith}
use Rattle.std.proofs.lemmas.Grind.{elements}
use Rattle.ft_index.proofs.reading.FtIndexLists.low_at.Goals as goal

pub returns-then-place-count : goal.returns-then-place-count
returns-then-place-count c = grind (arith, elements)

pub returns-else-place-count : goal.returns-else-place-count
returns-else-place-count c = grind (arith, elements)
