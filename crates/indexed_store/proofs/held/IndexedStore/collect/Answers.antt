use Rattle.std.specs.Prelude.{◌≡◌, ◌+◌, ◌++◌, drop, length, refl, take}
use Rattle.std.proofs.Common.{◌∙◌, ap, arith, subst}
use Rattle.indexed_store.proofs.RepairingLaws.{lent-back}
use Rattle.indexed_store.specs.Listed.{OthersKeep}
use Rattle.std.proofs.lemmas.List.{take_at}
use Rattle.indexed_store.proofs.ChangingLaws.{lent-step, whole-step}
use Rattle.indexed_store.proofs.CursorsLaws.{book-until}
use Rattle.indexed_store.proofs.MovingLaws.{moves-whole}
use Rattle.indexed_store.specs.DefinitionsOf.{definitions_of}
use Rattle.indexed_store.specs.Holding.{Holding, holding_of}
use Rattle.indexed_store.specs.Preparing.{Stays}
use Rattle.indexed_store.proofs.held.IndexedStore.collect.Goals as goal

pub invariant_of-self : goal.invariant_of-self
invariant_of-self c =
    let store = c.self.inside.store in
    let next = c.self.inside.next in
    let items = c.self.inside.indexes.items in
    let len = c.self.inside.indexes.len in
    let now = c.collect_named.new.indexes in
    let whole : length now ≡ len = omega (arith, c.collect_named.auto.indexes, c.as_mut_slice.ensures.len) in
    let lent = lent-step store c.as_mut_slice.result.now items next next c.as_mut_slice.ensures.value refl c.self.invariant.step in record {
      step = whole-step store len items now (next + 1) (next + 1) whole refl (c.collect_named.ensures.kept store lent);
      kept = book-until c.self.inside.opens c.self.inside.cursors next (next + 1) (omega arith) c.self.invariant.kept;
      few = omega (arith, ap length (take_at now (drop (length now) items) len whole), c.collect_named.auto.indexes, ap length c.as_mut_slice.ensures.value, c.self.invariant.few);
      room = c.self.invariant.room;
      ids = c.self.invariant.ids;
    }

pub returns-clause-stays : goal.returns-clause-stays
returns-clause-stays c =
    let in_ = c.self.inside in
    let items = in_.indexes.items in
    let now = c.collect_named.new.indexes in
    let whole : length now ≡ in_.indexes.len = omega (arith, c.collect_named.auto.indexes, c.as_mut_slice.ensures.len) in
    subst (λ (h : Holding). Stays h (holding_of in_.store (take in_.indexes.len (now ++ drop (length now) items)) in_.cursors in_.opens in_.latest (in_.next + 1))) c.self.view_is (record {
      space = refl;
      definitions = ap definitions_of (take_at now (drop (length now) items) in_.indexes.len whole) ∙ (c.collect_named.ensures.definitions ∙ ap definitions_of c.as_mut_slice.ensures.value);
      cursors = refl;
      latest = refl;
      next = omega arith;
      moves = moves-whole in_.next items c.as_mut_slice.result.now items now in_.indexes.len whole c.as_mut_slice.ensures.value c.collect_named.ensures.moves;
    })

pub returns-clause-others : goal.returns-clause-others
returns-clause-others c =
    let now = c.collect_named.new.indexes in
    let whole : length now ≡ c.self.inside.indexes.len = omega (arith, c.collect_named.auto.indexes, c.as_mut_slice.ensures.len) in
    lent-back (OthersKeep c.args.name.now) c.args.self.now.indexes c.self.inside.indexes.items
    c.as_mut_slice.result.now now c.self.inside.indexes.len whole c.as_mut_slice.ensures.value (ap (λ (h : Holding). h.indexes) c.self.view_is) c.collect_named.ensures.others
