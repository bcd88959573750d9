use Rattle.agg_pipeline.specs.Steps.{applied}
use Rattle.agg_pipeline.proofs.MappedLaws.{mapped-next}
use Rattle.agg_pipeline.proofs.row_steps.apply_all.Goals as goal

pub loop-row-preserved : goal.loop-row-preserved
loop-row-preserved c =
    mapped-next (applied c.args.def.now c.args.expr.now c.args.name.now) c.args.rows.now c.loop-row.rows c.loop-row.row-index c.apply.new.row c.row-item.result c.loop-row-test.true c.loop-row.invariant c.in_ok-apply.ensures
