use Rattle.std.proofs.Common.{◌∙◌, sym, ap, List, arith}
use Rattle.std.proofs.lemmas.Grind.{common_steps}
use Rattle.std.specs.List.{position}
use Rattle.cursor_book.specs.Shelved.{Shelved, has_serial}
use Rattle.cursor_book.proofs.PlaceLaws.{OnOk-then, pushed-behind, pushed-last}
use Rattle.cursor_book.proofs.shelves.push.Goals as goal

pub returns-in-Some-clause-ok : goal.returns-in-Some-clause-ok
returns-in-Some-clause-ok c =
    OnOk-then c.push.result _ _
    (λ made. pushed-behind c.args.cursor c.args.shelves.now.items c.in-Some.place c.index_mut.result.now c.push.new.self (sym (c.in-Some.ensures.place ∙ ap (λ (shelves : List Shelved). position (has_serial c.args.cursor.serial) shelves) c.as_slice.ensures.value)) c.index_mut.ensures.value made)
    c.push.ensures.ok

pub returns-in-None-clause-ok : goal.returns-in-None-clause-ok
returns-in-None-clause-ok c =
    OnOk-then c.push_shelf.result _ _ (λ made. made ∙ pushed-last c.args.cursor c.args.shelves.now.items (sym (c.in-None.ensures.place ∙ ap (λ (shelves : List Shelved). position (has_serial c.args.cursor.serial) shelves) c.as_slice.ensures.value))) c.push_shelf.ensures.ok

pub returns-in-Some-clause-err : goal.returns-in-Some-clause-err
returns-in-Some-clause-err c = grind (arith, common_steps)
