use Rattle.std.specs.Prelude.{Some}
use Rattle.indexed_store.specs.Indexing.{killed}
use Rattle.indexed_store.proofs.IndexingLaws.{mapped-next}
use Rattle.indexed_store.proofs.indexes.kill_all.Goals as goal

pub loop-index-preserved : goal.loop-index-preserved
loop-index-preserved c =
    mapped-next (killed (Some c.args.id)) c.args.indexes.now c.loop-index.indexes c.loop-index.index-index c.kill.new.index c.index-item.result c.loop-index-test.true c.loop-index.invariant c.kill.ensures
