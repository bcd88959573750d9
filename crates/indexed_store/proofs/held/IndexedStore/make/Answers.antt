use Rattle.std.specs.Prelude.{◌≤◌, ◌<◌, ◌+◌, Option}
use Rattle.std.proofs.Common.{arith, ap, sym, subst}
use Rattle.ft_machine.specs.Machine.{State}
use Rattle.ft_machine.specs.Step.{last_number}
use Rattle.indexed_store.specs.Holding.{Holding, IsBook, seen}
use Rattle.indexed_store.specs.Standing.{InStep}
use Rattle.indexed_store.specs.States.{state_with}
use Rattle.indexed_store.specs.declared.waiting.CursorPlace.{CursorPlace}
use Rattle.indexed_store.proofs.ChangingLaws.{changed-below, next-below, some-change}
use Rattle.indexed_store.proofs.CursorsLaws.{AreBelow, below-seen, below-until, book-alone}
use Rattle.indexed_store.proofs.held.IndexedStore.make.Goals as goal

pub invariant_of-self-in_default : goal.invariant_of-self-in_default
invariant_of-self-in_default c =
    let in_ = c.self.inside in
    let below : c.args.number < last_number = c.requires.before (some-change c.args.change c.in_default.not-Nothing) in
    let next = c.args.number + 1 in
    let more : in_.next ≤ next = omega (arith, c.requires.next, ap (λ (h : Holding). h.next) c.self.view_is) in
    let before : AreBelow next c.let_go.new.cursors =
    subst (AreBelow next) (sym c.let_go.ensures.cursors) (below-until in_.next next (seen in_.opens in_.cursors) more (below-seen in_.opens in_.cursors in_.next c.self.invariant.kept.earlier)) in
    let after = changed-below c.args.change in_.store.ready (state_with in_.store in_.indexes.items c.let_go.new.cursors in_.latest) next before in
    let now : AreBelow next c.make.new.cursors = subst (AreBelow next) (sym (ap (λ (s : State). s.cursors) c.make.ensures.state)) after in record {
      step = subst (InStep c.make.new.store c.make.new.indexes.items) (next-below c.args.number below) c.make.ensures.kept;
      kept = subst (λ (opens : Option CursorPlace). IsBook opens c.make.new.cursors next) (sym c.let_go.ensures.opens) (book-alone c.make.new.cursors next now);
      few = c.make.ensures.few;
      room = c.make.ensures.capacity;
      ids = c.self.invariant.ids;
    }
