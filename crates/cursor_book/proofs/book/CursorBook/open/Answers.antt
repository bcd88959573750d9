use Rattle.std.proofs.Common.{◌∙◌, ◌++◌, ◌∷◌, [], ◌<◌, ap, sym, subst, List}
use Rattle.std.specs.List.{AllByRecursion}
use Rattle.cursor_book.specs.declared.cursor.Cursor.{Cursor}
use Rattle.cursor_book.specs.Ends.{AllEndFrom}
use Rattle.cursor_book.specs.Cursors.{IdsRise}
use Rattle.cursor_book.specs.Shelved.{AreShelved, Shelved, all_of, by_id}
use Rattle.cursor_book.proofs.ShelvedLaws.{pushed-rises, pushed-in-order, shelved-pushed}
use Rattle.cursor_book.proofs.book.CursorBook.open.Goals as goal

pub invariant_of-self-2 : goal.invariant_of-self-2
invariant_of-self-2 c = record {
  ends = subst (λ (shelves : List Shelved). AllEndFrom c.earliest_of-self-inside.result (all_of shelves)) c.as_slice.ensures.value c.earliest_of-self-inside.ensures;
  shelved = subst AreShelved (sym c.in_ok-push.ensures.ok) (shelved-pushed c.args.cursor c.self.inside.shelves.items c.self.invariant.shelved);
  rises = subst (λ (shelves : List Shelved). IdsRise (by_id (all_of shelves))) (sym c.in_ok-push.ensures.ok) (pushed-rises c.args.cursor c.self.inside.shelves.items (subst (AllByRecursion (λ (other : Cursor). other.id < c.args.cursor.id)) (sym c.self.view_is) c.requires) c.self.invariant.rises);
}

pub returns-clause-ok : goal.returns-clause-ok
returns-clause-ok c =
    ap (λ (shelves : List Shelved). by_id (all_of shelves)) c.in_ok-push.ensures.ok
    ∙ pushed-in-order c.args.cursor c.self.inside.shelves.items (subst (AllByRecursion (λ (other : Cursor). other.id < c.args.cursor.id)) (sym c.self.view_is) c.requires)
    ∙ ap (λ (cursors : List Cursor). cursors ++ c.args.cursor ∷ []) c.self.view_is
