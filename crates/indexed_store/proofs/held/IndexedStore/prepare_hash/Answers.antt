use Rattle.std.proofs.lemmas.Grind.{common_steps}
use Rattle.std.specs.Prelude.{◌≡◌, ◌+◌, ◌++◌, drop, length, take}
use Rattle.std.proofs.Common.{◌∙◌, ap, arith, refl, subst}
use Rattle.indexed_store.specs.DefinitionsOf.{definitions_of}
use Rattle.indexed_store.specs.Holding.{Holding, holding_of}
use Rattle.indexed_store.specs.Preparing.{Stays}
use Rattle.indexed_store.proofs.MovingLaws.{moves-whole}
use Rattle.std.proofs.lemmas.List.{take_at}
use Rattle.indexed_store.proofs.ChangingLaws.{whole-step}
use Rattle.indexed_store.proofs.CursorsLaws.{book-until}
use Rattle.indexed_store.proofs.held.IndexedStore.prepare_hash.Goals as goal

pub invariant_of-self : goal.invariant_of-self
invariant_of-self c =
    let next = c.self.inside.next + 1 in
    let items = c.self.inside.indexes.items in
    let len = c.self.inside.indexes.len in
    let now = c.prepare_hash.new.indexes in
    let whole : length now ≡ len = omega (arith, c.prepare_hash.auto.indexes, c.as_mut_slice.ensures.len) in record {
      step = whole-step c.prepare_hash.new.store len items now next next whole refl c.prepare_hash.ensures.kept;
      kept = book-until c.self.inside.opens c.self.inside.cursors c.self.inside.next next (omega arith) c.self.invariant.kept;
      few = omega (arith, ap length (take_at now (drop (length now) items) len whole), c.prepare_hash.auto.indexes, ap length c.as_mut_slice.ensures.value, c.self.invariant.few);
      room = c.self.invariant.room;
      ids = c.self.invariant.ids;
    }

pub returns-clause-waits : goal.returns-clause-waits
returns-clause-waits c = grind (arith, common_steps)

pub returns-clause-stays : goal.returns-clause-stays
returns-clause-stays c =
    let in_ = c.self.inside in
    let items = in_.indexes.items in
    let now = c.prepare_hash.new.indexes in
    let whole : length now ≡ in_.indexes.len = omega (arith, c.prepare_hash.auto.indexes, c.as_mut_slice.ensures.len) in
    subst (λ (h : Holding). Stays h (holding_of c.prepare_hash.new.store (take in_.indexes.len (now ++ drop (length now) items)) in_.cursors in_.opens in_.latest (in_.next + 1))) c.self.view_is (record {
      space = c.prepare_hash.ensures.space;
      definitions = ap definitions_of (take_at now (drop (length now) items) in_.indexes.len whole) ∙ (c.prepare_hash.ensures.definitions ∙ ap definitions_of c.as_mut_slice.ensures.value);
      cursors = refl;
      latest = refl;
      next = omega arith;
      moves = moves-whole in_.next items c.as_mut_slice.result.now items now in_.indexes.len whole c.as_mut_slice.ensures.value c.prepare_hash.ensures.moves;
    })
