use Rattle.std.proofs.lemmas.Grind.{elements}
use Rattle.std.specs.Prelude.{◌≡◌, ◌+◌, List, None, Some, ℕ, refl}
use Rattle.std.proofs.Common.{arith, ap, sym, subst, ◌∙◌}
use Rattle.cursor_book.specs.declared.cursor.Cursor.{Cursor}
use Rattle.indexed_store.specs.Holding.{Holding, IsBook, holding_of, seen, waiting}
use Rattle.indexed_store.specs.Preparing.{Stays}
use Rattle.indexed_store.specs.declared.waiting.CursorPlace.{CursorPlace}
use Rattle.indexed_store.proofs.CursorsLaws.{all-seen, book-waits}
use Rattle.indexed_store.proofs.HoldingLaws.{in_step-until}
use Rattle.indexed_store.proofs.MovingLaws.{moves_same}
use Rattle.indexed_store.proofs.held.IndexedStore.prepare_cursor.Goals as goal

-- the id of a cursor of this event is its number
number_of : (old inside : Holding) (id : ℕ) → inside ≡ old → id ≡ old.next → id ≡ inside.next
number_of old inside id is same = same ∙ sym (ap (λ (h : Holding). h.next) is)

pub invariant_of-self-2 : goal.invariant_of-self-2
invariant_of-self-2 c =
    let place : CursorPlace = record { serial = c.args.cursor.serial; id = c.args.cursor.id } in
    let next = c.self.inside.next in
    let at = number_of c.args.self.now _ c.args.cursor.id c.self.view_is c.requires.id in
    let waits = book-waits place c.args.cursor c.self.inside.cursors next refl refl at c.self.invariant.kept.earlier in record {
      step = in_step-until c.self.inside.store c.self.inside.indexes.items next (next + 1) (omega arith) c.self.invariant.step;
      kept = subst (λ (book : List Cursor). IsBook (Some place) book (next + 1)) (sym c.in_ok-open.ensures.ok) waits.2;
      few = c.self.invariant.few;
      room = c.self.invariant.room;
      ids = c.self.invariant.ids;
    }

pub returns-clause-waits : goal.returns-clause-waits
returns-clause-waits c =
    let place : CursorPlace = record { serial = c.args.cursor.serial; id = c.args.cursor.id } in
    let at = number_of c.args.self.now _ c.args.cursor.id c.self.view_is c.requires.id in
    let waits = book-waits place c.args.cursor c.self.inside.cursors c.self.inside.next refl refl at c.self.invariant.kept.earlier in
    ap (waiting (Some place)) c.in_ok-open.ensures.ok ∙ waits.1

pub returns-clause-stays : goal.returns-clause-stays
returns-clause-stays c =
    let place : CursorPlace = record { serial = c.args.cursor.serial; id = c.args.cursor.id } in
    let in_ = c.self.inside in
    let at = number_of c.args.self.now _ c.args.cursor.id c.self.view_is c.requires.id in
    let waits = book-waits place c.args.cursor in_.cursors in_.next refl refl at c.self.invariant.kept.earlier in
    let none : waiting in_.opens in_.cursors ≡ None = ap (λ (h : Holding). h.opens) c.self.view_is ∙ c.requires.none in
    subst (λ (h : Holding). Stays h (holding_of in_.store in_.indexes.items c.open.new.self (Some place) in_.latest (in_.next + 1))) c.self.view_is (record {
      space = refl;
      definitions = refl;
      cursors = ap (seen (Some place)) c.in_ok-open.ensures.ok ∙ (waits.0 ∙ sym (all-seen in_.opens in_.cursors in_.next c.self.invariant.kept none));
      latest = refl;
      next = omega arith;
      moves = moves_same in_.next in_.indexes.items;
    })

pub open-requires : goal.open-requires
open-requires c = grind (arith, elements)

pub invariant_of-self : goal.invariant_of-self
invariant_of-self c = grind (arith, elements)
