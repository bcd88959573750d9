use Rattle.indexed_store.specs.Indexing.{settled}
use Rattle.indexed_store.proofs.IndexingLaws.{mapped-next}
use Rattle.indexed_store.proofs.indexes.commit_all.Goals as goal

pub loop-index-preserved : goal.loop-index-preserved
loop-index-preserved c =
    mapped-next (settled c.args.replaced) c.args.indexes.now c.loop-index.indexes c.loop-index.index-index c.settle.new.index c.index-item.result c.loop-index-test.true c.loop-index.invariant c.settle.ensures
