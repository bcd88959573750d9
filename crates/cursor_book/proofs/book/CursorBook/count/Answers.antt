use Rattle.std.proofs.Common.{◌∙◌, ap, sym, subst, length, List}
use Rattle.cursor_book.specs.declared.cursor.Cursor.{Cursor}
use Rattle.cursor_book.specs.Cursors.{IdsRise, cursors_of}
use Rattle.cursor_book.specs.Shelved.{AreShelved, Shelved, all_of, by_id}
use Rattle.cursor_book.proofs.ShelvedLaws.{counted}
use Rattle.cursor_book.proofs.book.CursorBook.count.Goals as goal

pub returns-clause-number : goal.returns-clause-number
returns-clause-number c =
    c.count.ensures ∙ counted c.args.serial c.as_slice.result.now (subst AreShelved (sym c.as_slice.ensures.value) c.self.invariant.shelved)
    ∙ ap (λ (shelves : List Shelved). length (cursors_of c.args.serial (by_id (all_of shelves)))) c.as_slice.ensures.value
    ∙ ap (λ (cursors : List Cursor). length (cursors_of c.args.serial cursors)) c.self.view_is

pub returns-clause-rises : goal.returns-clause-rises
returns-clause-rises c = subst IdsRise c.self.view_is c.self.invariant.rises
