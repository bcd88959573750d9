use Rattle.std.specs.Prelude.{◌≤◌, List, None, Option}
use Rattle.std.proofs.Common.{arith, ap, sym, subst, ◌∙◌}
use Rattle.cursor_book.specs.Cursors.{live}
use Rattle.cursor_book.specs.declared.cursor.Cursor.{Cursor}
use Rattle.indexed_store.specs.Holding.{Holding, IsBook}
use Rattle.indexed_store.specs.declared.waiting.CursorPlace.{CursorPlace}
use Rattle.indexed_store.proofs.CursorsLaws.{book-begun}
use Rattle.indexed_store.proofs.HoldingLaws.{in_step-until}
use Rattle.indexed_store.proofs.held.IndexedStore.begin.Goals as goal

pub invariant_of-self : goal.invariant_of-self
invariant_of-self c =
    let more : c.self.inside.next ≤ c.args.number = omega (arith, c.requires, ap (λ (h : Holding). h.next) c.self.view_is) in
    let now = c.max-self-inside.result in
    let begun = book-begun c.self.inside.opens c.self.inside.cursors c.self.inside.next c.args.number now more c.self.invariant.kept in record {
      step = in_step-until c.self.inside.store c.self.inside.indexes.items c.self.inside.next c.args.number more c.self.invariant.step;
      kept = subst (λ (opens : Option CursorPlace). IsBook opens c.drop_idle.new.self c.args.number) (sym c.let_go.ensures.opens)
          (subst (λ (book : List Cursor). IsBook None book c.args.number) (sym (c.drop_idle.ensures ∙ ap (live now) c.let_go.ensures.cursors)) begun);
      few = c.self.invariant.few;
      room = c.self.invariant.room;
      ids = c.self.invariant.ids;
    }
