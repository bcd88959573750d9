use Rattle.cursor_book.specs.Cursors.{is_live}
use Rattle.cursor_book.specs.Shelved.{kept}
use Rattle.agg_pipeline.proofs.MappedLaws.{mapped-next}
use Rattle.cursor_book.proofs.shelves.drop_idle_each.Goals as goal

pub loop-shelf-preserved : goal.loop-shelf-preserved
loop-shelf-preserved c =
    mapped-next (kept (is_live c.args.now)) c.args.shelves.now c.loop-shelf.shelves c.loop-shelf.shelf-index c.drop_idle.new.self c.shelf-item.result c.loop-shelf-test.true c.loop-shelf.invariant c.drop_idle.ensures
