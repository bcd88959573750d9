use Rattle.std.proofs.Common.{◌∙◌, ap, sym, subst, List}
use Rattle.cursor_book.specs.declared.cursor.Cursor.{Cursor}
use Rattle.cursor_book.specs.Cursors.{cursor_of}
use Rattle.cursor_book.specs.Shelved.{AreShelved, Shelved, all_of, by_id}
use Rattle.cursor_book.proofs.ShelvedLaws.{found}
use Rattle.cursor_book.proofs.book.CursorBook.find.Goals as goal

pub returns : goal.returns
returns c =
    c.find.ensures ∙ found c.args.serial c.args.id c.as_slice.result.now (subst AreShelved (sym c.as_slice.ensures.value) c.self.invariant.shelved)
    ∙ ap (λ (shelves : List Shelved). cursor_of c.args.serial c.args.id (by_id (all_of shelves))) c.as_slice.ensures.value
    ∙ ap (λ (cursors : List Cursor). cursor_of c.args.serial c.args.id cursors) c.self.view_is
