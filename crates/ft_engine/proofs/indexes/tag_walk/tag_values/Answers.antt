use Rattle.std.proofs.Common.{arith}
use Rattle.std.proofs.lemmas.Grind.{common_steps}
use Rattle.ft_engine.proofs.indexes.tag_walk.tag_values.Goals as goal

pub walking-preserved : goal.walking-preserved
walking-preserved c = grind (arith, common_steps)
