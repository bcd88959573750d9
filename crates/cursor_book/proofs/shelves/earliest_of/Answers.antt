use Rattle.std.proofs.Common.{arith}
use Rattle.cursor_book.proofs.EndsLaws.{ends-earlier, shelf-ends-next}
use Rattle.cursor_book.proofs.shelves.earliest_of.Goals as goal

pub loop-shelf-preserved : goal.loop-shelf-preserved
loop-shelf-preserved c =
    shelf-ends-next c.min-earliest.result c.loop-shelf.earliest c.args.shelves.now c.loop-shelf.shelf-index c.shelf-item.result c.loop-shelf-test.true c.shelf-item.is
    (omega (arith, c.min-earliest.ensures))
    (ends-earlier c.min-earliest.result c.earliest.result c.shelf-item.result.1 (omega (arith, c.min-earliest.ensures)) c.earliest.ensures)
    c.loop-shelf.invariant
