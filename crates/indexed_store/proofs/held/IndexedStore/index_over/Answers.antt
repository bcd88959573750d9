use Rattle.std.specs.Prelude.{◌+◌}
use Rattle.std.proofs.Common.{arith, refl, subst, sym}
use Rattle.std.proofs.lemmas.Result.{IfOk-weaker}
use Rattle.ft_index.specs.Index.{Index}
use Rattle.indexed_store.proofs.ApartLaws.{new-apart}
use Rattle.indexed_store.proofs.CursorsLaws.{book-until}
use Rattle.indexed_store.proofs.StepLaws.{in_step-read}
use Rattle.indexed_store.specs.Holding.{Holding, holding_of}
use Rattle.indexed_store.specs.Preparing.{IsMade, Stays}
use Rattle.indexed_store.proofs.MovingLaws.{moves_same}
use Rattle.indexed_store.proofs.held.IndexedStore.index_over.Goals as goal

pub returns-clause-made : goal.returns-clause-made
returns-clause-made c =
    let after = holding_of c.index_over.new.store c.self.inside.indexes.items c.self.inside.cursors c.self.inside.opens c.self.inside.latest (c.self.inside.next + 1) in
    let made : IsMade c.args.def c.args.failures c.in_ok-index.index c.args.self.now after =
    subst (λ (h : Holding). IsMade c.args.def c.args.failures c.in_ok-index.index h after) c.self.view_is (record {
      same = c.in_ok-index.ensures.def;
      failures = c.in_ok-index.ensures.failures;
      stands = c.in_ok-index.ensures.stands;
      apart = new-apart c.self.inside.store.space c.self.inside.next c.self.inside.indexes.items c.in_ok-index.index c.self.invariant.step.stand c.in_ok-index.ensures.given;
      given = c.in_ok-index.ensures.given;
    }) in
    IfOk-weaker c.new.result _ _ (λ index same. subst (λ (i : Index). IsMade c.args.def c.args.failures i c.args.self.now after) (sym same) made) c.new.ensures

pub invariant_of-self-2 : goal.invariant_of-self-2
invariant_of-self-2 c = record {
  step = in_step-read c.self.inside.store c.index_over.new.store c.self.inside.indexes.items c.self.inside.next c.index_over.ensures.space c.index_over.ensures.last c.self.invariant.step;
  kept = book-until c.self.inside.opens c.self.inside.cursors c.self.inside.next (c.self.inside.next + 1) (omega arith) c.self.invariant.kept;
  few = c.self.invariant.few;
  room = c.self.invariant.room;
  ids = c.self.invariant.ids;
}

pub invariant_of-self : goal.invariant_of-self
invariant_of-self c = record {
  step = in_step-read c.self.inside.store c.index_over.new.store c.self.inside.indexes.items c.self.inside.next c.index_over.ensures.space c.index_over.ensures.last c.self.invariant.step;
  kept = book-until c.self.inside.opens c.self.inside.cursors c.self.inside.next (c.self.inside.next + 1) (omega arith) c.self.invariant.kept;
  few = c.self.invariant.few;
  room = c.self.invariant.room;
  ids = c.self.invariant.ids;
}

pub returns-clause-stays : goal.returns-clause-stays
returns-clause-stays c =
    let in_ = c.self.inside in
    subst (λ (h : Holding). Stays h (holding_of c.index_over.new.store in_.indexes.items in_.cursors in_.opens in_.latest (in_.next + 1))) c.self.view_is (record {
      space = c.index_over.ensures.space;
      definitions = refl;
      cursors = refl;
      latest = refl;
      next = omega arith;
      moves = moves_same in_.next in_.indexes.items;
    })
