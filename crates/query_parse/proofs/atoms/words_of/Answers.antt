use Rattle.std.proofs.Common.{◌+◌, ◌∷◌, ◌++◌, [], List, ℕ, ap, map, sym, take, ◌∙◌}
use Rattle.std.proofs.lemmas.List.{map-append}
use Rattle.token_text.specs.declared.token.Token.{Token}
use Rattle.token_text.proofs.StepLaws.{taken-next}
use Rattle.query_parse.proofs.atoms.words_of.Goals as goal

pub loop-i-preserved : goal.loop-i-preserved
loop-i-preserved c =
    let token : Token = record { place = c.loop-i.i + 1; word = c.word.result.now } in
    let next = ap (map (λ (one : Token). one.word)) (taken-next c.args.found.now c.loop-i.i token c.word.ensures)
    ∙ map-append (λ (one : Token). one.word) (take c.loop-i.i c.args.found.now) (token ∷ []) in
    c.in_ok-push.ensures.items
    ∙ (ap (λ (word : List ℕ). c.loop-i.words.items ++ word ∷ []) c.in_ok-from_slice.ensures
    ∙ (ap (λ (words : List (List ℕ)). words ++ c.word.result.now ∷ []) c.loop-i.invariant ∙ sym next))
