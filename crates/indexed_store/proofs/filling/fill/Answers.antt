use Rattle.std.proofs.lemmas.Grind.{elements}
use Rattle.std.specs.Prelude.{◌≡◌, ◌∷◌, ◌++◌, []}
use Rattle.std.proofs.Common.{◌∙◌, ap, sym, subst, rules, append_assoc, arith}
use Rattle.indexed_store.specs.Filling.{HasTaken}
use Rattle.indexed_store.specs.Standing.{AreOfEvent}
use Rattle.indexed_store.proofs.FillingLaws.{AreLeft, left-next}
use Rattle.indexed_store.proofs.filling.fill.Goals as goal

pub filling-preserved : goal.filling-preserved
filling-preserved c =
    let done = c.filling.invariant in
    let left : AreLeft c.put_doc.new.index.table.last c.args.markers.now.event c.next.new.self =
    left-next _ _ _ c.in-Some.doc.now _ c.in_ok-put_doc.ensures.last (subst (AreLeft _ _) c.in-Some.ensures done.left) in
    let taken : HasTaken c.put_doc.new.markers (done.done ++ c.in-Some.doc.now ∷ []) c.put_doc.new.index = record {
      stands = c.in_ok-put_doc.ensures.stands done.done done.taken.stands;
      sound = c.put_doc.ensures.sound;
      before = c.put_doc.ensures.before;
      given = subst (λ event. AreOfEvent event c.put_doc.new.index) (sym c.put_doc.ensures.event) c.put_doc.ensures.given;
    } in
    let whole : (done.done ++ c.in-Some.doc.now ∷ []) ++ c.next.new.self ≡ c.args.store.now.space =
    append_assoc done.done (c.in-Some.doc.now ∷ []) c.next.new.self ∙ (ap (λ docs. done.done ++ docs) (sym c.in-Some.ensures) ∙ done.whole) in
    search (rules, whole, left, taken)

pub put_doc-requires-clause-values : goal.put_doc-requires-clause-values
put_doc-requires-clause-values c = grind (arith, elements)
