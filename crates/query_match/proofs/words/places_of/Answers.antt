use Rattle.std.proofs.Common.{◌≡◌, ◌+◌, ◌∷◌, ◌++◌, [], List, ℕ, true, false, ap, append-nil, sym, ◌∙◌}
use Rattle.std.specs.Str.{bytes_eq}
use Rattle.query_match.proofs.TokenLemmas.{places-next}
use Rattle.query_match.proofs.words.places_of.Goals.{then-eq+in_ok-push, else-eq}
use Rattle.query_match.proofs.words.places_of.Goals as goal

pub loop-i-preserved : goal.loop-i-preserved
loop-i-preserved c =
    let next = places-next c.args.found.now c.args.word.now c.loop-i.i (record { place = c.loop-i.i + 1; word = c.word.result.now }) c.word.ensures in
    elim c.if-eq.branch [
      | then-eq+in_ok-push w ↦
          let here : bytes_eq c.args.word.now c.word.result.now ≡ true = sym c.eq.ensures ∙ w.if-eq.true in
          let more = rw here at next in
          w.places-is ∙ (w.in_ok-push.ensures.ok ∙ (ap (λ (places : List ℕ). places ++ (c.loop-i.i + 1) ∷ []) c.loop-i.invariant ∙ sym more))
      | else-eq w ↦
          let away : bytes_eq c.args.word.now c.word.result.now ≡ false = sym c.eq.ensures ∙ w.if-eq.false in
          let more = rw (away, append-nil) at next in
          w.places-is ∙ (c.loop-i.invariant ∙ sym more)
    ]
