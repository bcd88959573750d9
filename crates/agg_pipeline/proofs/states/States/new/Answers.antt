use Rattle.std.proofs.Common.{arith}
use Rattle.std.proofs.lemmas.Grind.{common_steps}
use Rattle.agg_pipeline.proofs.states.States.new.Goals as goal

pub loop-reducer-preserved : goal.loop-reducer-preserved
loop-reducer-preserved c = grind (arith, common_steps)

pub returns : goal.returns
returns c = grind (arith, common_steps)
