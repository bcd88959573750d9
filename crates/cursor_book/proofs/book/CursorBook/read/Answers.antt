use Rattle.std.proofs.Common.{◌∙◌, ap, sym, subst, List}
use Rattle.cursor_book.specs.Cursors.{read}
use Rattle.cursor_book.specs.Ends.{AllEndFrom}
use Rattle.cursor_book.specs.Cursors.{IdsRise}
use Rattle.cursor_book.specs.Shelved.{AreShelved, Shelved, all_of, by_id}
use Rattle.cursor_book.proofs.ShelvedLaws.{read-rises, read-in-order, shelved-read}
use Rattle.cursor_book.proofs.book.CursorBook.read.Goals as goal

pub invariant_of-self : goal.invariant_of-self
invariant_of-self c = record {
  ends = subst (λ (shelves : List Shelved). AllEndFrom c.earliest_of-self-inside.result (all_of shelves)) c.as_slice.ensures.value c.earliest_of-self-inside.ensures;
  shelved = subst AreShelved (sym c.read.ensures) (shelved-read c.args.serial c.args.id c.args.now c.args.taken c.self.inside.shelves.items c.self.invariant.shelved);
  rises = subst (λ (shelves : List Shelved). IdsRise (by_id (all_of shelves))) (sym c.read.ensures) (read-rises c.args.serial c.args.id c.args.now c.args.taken c.self.inside.shelves.items c.self.invariant.shelved c.self.invariant.rises);
}

pub returns : goal.returns
returns c =
    ap (λ (shelves : List Shelved). by_id (all_of shelves)) c.read.ensures
    ∙ read-in-order c.args.serial c.args.id c.args.now c.args.taken c.self.inside.shelves.items c.self.invariant.shelved
    ∙ ap (read c.args.serial c.args.id c.args.now c.args.taken) c.self.view_is
