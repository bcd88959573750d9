use Rattle.cursor_book.specs.Shelved.{read_if_id}
use Rattle.agg_pipeline.proofs.MappedLaws.{mapped-next}
use Rattle.cursor_book.proofs.shelf.read_cursors.Goals as goal

pub loop-cursor-preserved : goal.loop-cursor-preserved
loop-cursor-preserved c =
    mapped-next (read_if_id c.args.id c.args.now c.args.taken) c.args.cursors.now c.loop-cursor.cursors c.loop-cursor.cursor-index c.read_if_id.new.cursor c.cursor-item.result c.loop-cursor-test.true c.loop-cursor.invariant c.read_if_id.ensures
