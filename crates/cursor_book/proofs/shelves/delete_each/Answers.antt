use Rattle.cursor_book.specs.Shelved.{delete_in}
use Rattle.agg_pipeline.proofs.MappedLaws.{mapped-next}
use Rattle.cursor_book.proofs.shelves.delete_each.Goals as goal

pub loop-shelf-preserved : goal.loop-shelf-preserved
loop-shelf-preserved c =
    mapped-next (delete_in c.args.serial c.args.id) c.args.shelves.now c.loop-shelf.shelves c.loop-shelf.shelf-index c.delete_in.new.shelf c.shelf-item.result c.loop-shelf-test.true c.loop-shelf.invariant c.delete_in.ensures
