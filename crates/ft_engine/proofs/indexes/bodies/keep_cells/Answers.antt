use Rattle.agg_pipeline.proofs.MappedLaws.{mapped-next}
use Rattle.ft_machine.specs.Opening.{cells_alone}
use Rattle.ft_engine.proofs.indexes.bodies.keep_cells.Goals as goal

pub loop-row-preserved : goal.loop-row-preserved
loop-row-preserved c =
    mapped-next cells_alone c.args.rows.now c.loop-row.rows c.loop-row.row-index c.keep_row.new.row c.row-item.result c.loop-row-test.true c.loop-row.invariant c.keep_row.ensures
