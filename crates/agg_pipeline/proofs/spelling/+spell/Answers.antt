use Rattle.std.proofs.Common.{arith}
use Rattle.std.proofs.lemmas.Grind.{common_steps}
use Rattle.agg_pipeline.proofs.spelling.+spell.Goals as goal

pub spell_list-loop-value-preserved : goal.spell_list-loop-value-preserved
spell_list-loop-value-preserved t c = grind (arith, common_steps)

pub spell_list-returns : goal.spell_list-returns
spell_list-returns t c = grind (arith, common_steps)
