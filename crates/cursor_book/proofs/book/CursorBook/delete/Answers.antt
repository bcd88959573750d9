use Rattle.std.proofs.Common.{◌∙◌, ap, sym, subst, Option, List}
use Rattle.std.specs.Prelude.{is_some}
use Rattle.cursor_book.specs.declared.cursor.Cursor.{Cursor}
use Rattle.cursor_book.specs.Cursors.{cursor_of, without}
use Rattle.cursor_book.specs.Ends.{AllEndFrom}
use Rattle.cursor_book.specs.Cursors.{IdsRise}
use Rattle.cursor_book.specs.Shelved.{AreShelved, Shelved, all_of, by_id}
use Rattle.cursor_book.proofs.ShelvedLaws.{deleted-rises, deleted-in-order, found, shelved-deleted}
use Rattle.cursor_book.proofs.book.CursorBook.delete.Goals as goal

pub invariant_of-self : goal.invariant_of-self
invariant_of-self c = record {
  ends = subst (λ (shelves : List Shelved). AllEndFrom c.earliest_of-self-inside.result (all_of shelves)) c.as_slice-2.ensures.value c.earliest_of-self-inside.ensures;
  shelved = subst AreShelved (sym c.delete.ensures) (shelved-deleted c.args.serial c.args.id c.self.inside.shelves.items c.self.invariant.shelved);
  rises = subst (λ (shelves : List Shelved). IdsRise (by_id (all_of shelves))) (sym c.delete.ensures) (deleted-rises c.args.serial c.args.id c.self.inside.shelves.items c.self.invariant.shelved c.self.invariant.rises);
}

pub returns-clause-there : goal.returns-clause-there
returns-clause-there c =
    c.has-there.ensures
    ∙ ap (λ (one : Option Cursor). is_some one)
    (found c.args.serial c.args.id c.as_slice.result.now (subst AreShelved (sym c.as_slice.ensures.value) c.self.invariant.shelved)
    ∙ ap (λ (shelves : List Shelved). cursor_of c.args.serial c.args.id (by_id (all_of shelves))) c.as_slice.ensures.value
    ∙ ap (cursor_of c.args.serial c.args.id) c.self.view_is)

pub returns-clause-left : goal.returns-clause-left
returns-clause-left c =
    ap (λ (shelves : List Shelved). by_id (all_of shelves)) c.delete.ensures
    ∙ deleted-in-order c.args.serial c.args.id c.self.inside.shelves.items c.self.invariant.shelved
    ∙ ap (without c.args.serial c.args.id) c.self.view_is
