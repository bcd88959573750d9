use Rattle.std.proofs.Common.{◌∷◌, ◌++◌, [], List, ℕ, sym, ap, ◌∙◌}
use Rattle.phrase_match.proofs.TextLaws.{places_before_yes, places_before_no}
use Rattle.leaf_rows.proofs.phrases.places_of.Goals as goal
use Rattle.leaf_rows.proofs.phrases.places_of.Goals.{then-other-word+in_ok-push, else-other-word}

pub loop-place-preserved : goal.loop-place-preserved
loop-place-preserved c =
    let text = c.args.document.now in
    let place = c.loop-place.place in
    elim c.if-other-word.branch [
      | then-other-word+in_ok-push w ↦ w.found-is ∙ (w.in_ok-push.ensures.ok
          ∙ (ap (λ (found : List ℕ). found ++ place ∷ []) c.loop-place.invariant
          ∙ sym (places_before_yes text c.args.word place w.if-other-word.true)))
      | else-other-word w ↦ w.found-is ∙ (c.loop-place.invariant ∙ sym (places_before_no text c.args.word place w.if-other-word.false))
    ]
