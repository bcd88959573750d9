use Rattle.std.proofs.Common.{◌∙◌, ap, sym, subst, List, arith}
use Rattle.cursor_book.specs.Cursors.{is_live, live}
use Rattle.cursor_book.specs.Ends.{AllEndFrom}
use Rattle.cursor_book.specs.Cursors.{IdsRise}
use Rattle.cursor_book.specs.Shelved.{AreShelved, Shelved, all_of, by_id}
use Rattle.cursor_book.proofs.ShelvedLaws.{kept-rises, kept-in-order, live-in-order, shelved-kept}
use Rattle.cursor_book.proofs.book.CursorBook.drop_idle.Goals as goal

pub invariant_of-self : goal.invariant_of-self
invariant_of-self c = record {
  ends = subst (λ (shelves : List Shelved). AllEndFrom c.earliest_of-self-inside.result (all_of shelves)) c.as_slice.ensures.value c.earliest_of-self-inside.ensures;
  shelved = subst AreShelved (sym c.drop_idle.ensures) (shelved-kept (is_live c.args.now) c.self.inside.shelves.items c.self.invariant.shelved);
  rises = subst (λ (shelves : List Shelved). IdsRise (by_id (all_of shelves))) (sym c.drop_idle.ensures) (kept-rises (is_live c.args.now) c.self.inside.shelves.items c.self.invariant.rises);
}

pub returns-then-now-self : goal.returns-then-now-self
returns-then-now-self c =
    ap (λ (shelves : List Shelved). by_id (all_of shelves)) c.drop_idle.ensures
    ∙ kept-in-order (is_live c.args.now) c.self.inside.shelves.items
    ∙ ap (live c.args.now) c.self.view_is

pub returns-else-now-self : goal.returns-else-now-self
returns-else-now-self c =
    rw (← c.self.view_is)
    (sym (live-in-order c.args.now c.self.inside.earliest (all_of c.self.inside.shelves.items) (omega (arith, c.if-now-self.false)) c.self.invariant.ends))
