use Rattle.std.proofs.Common.{List, sym, ap, arith}
use Rattle.cursor_book.specs.declared.cursor.Cursor.{Cursor}
use Rattle.cursor_book.proofs.EndsLaws.{none-idle}
use Rattle.cursor_book.proofs.shelf.Shelf.drop_idle.Goals as goal

pub returns-else-now-self : goal.returns-else-now-self
returns-else-now-self c =
    rw (← c.self.view_is)
    (ap (λ (cursors : List Cursor). (c.self.inside.serial, cursors)) (sym (none-idle c.args.now c.self.inside.earliest c.self.inside.cursors.items (omega (arith, c.if-now-self.false)) c.self.invariant)))
