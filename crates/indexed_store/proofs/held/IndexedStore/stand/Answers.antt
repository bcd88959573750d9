use Rattle.std.proofs.Common.{ap, subst, arith}
use Rattle.indexed_store.specs.Holding.{AllStand, Holding}
use Rattle.indexed_store.proofs.HoldingLaws.{all-stand}
use Rattle.indexed_store.proofs.held.IndexedStore.stand.Goals as goal

pub returns-clause-stand : goal.returns-clause-stand
returns-clause-stand c number more =
    subst (AllStand number) c.self.view_is (all-stand c.self.inside.store c.self.inside.indexes.items c.self.inside.cursors c.self.inside.opens c.self.inside.latest c.self.inside.next number (omega (arith, more, ap (λ (h : Holding). h.next) c.self.view_is)) c.self.invariant.step)
