use Rattle.std.proofs.Common.{◌∙◌, ap, sym, subst, List}
use Rattle.cursor_book.specs.Cursors.{without_index}
use Rattle.cursor_book.specs.Ends.{AllEndFrom}
use Rattle.cursor_book.specs.Cursors.{IdsRise}
use Rattle.cursor_book.specs.Shelved.{AreShelved, Shelved, all_of, by_id}
use Rattle.cursor_book.proofs.ShelvedLaws.{others-rise, others-in-order, shelved-others}
use Rattle.cursor_book.proofs.book.CursorBook.drop_index.Goals as goal

pub invariant_of-self : goal.invariant_of-self
invariant_of-self c = record {
  ends = subst (λ (shelves : List Shelved). AllEndFrom c.earliest_of-self-inside.result (all_of shelves)) c.as_slice.ensures.value c.earliest_of-self-inside.ensures;
  shelved = subst AreShelved (sym c.drop_shelf.ensures) (shelved-others c.args.serial c.self.inside.shelves.items c.self.invariant.shelved);
  rises = subst (λ (shelves : List Shelved). IdsRise (by_id (all_of shelves))) (sym c.drop_shelf.ensures) (others-rise c.args.serial c.self.inside.shelves.items c.self.invariant.shelved c.self.invariant.rises);
}

pub returns : goal.returns
returns c =
    ap (λ (shelves : List Shelved). by_id (all_of shelves)) c.drop_shelf.ensures
    ∙ others-in-order c.args.serial c.self.inside.shelves.items c.self.invariant.shelved
    ∙ ap (without_index c.args.serial) c.self.view_is
