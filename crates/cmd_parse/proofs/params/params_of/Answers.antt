use Rattle.std.proofs.Common.{◌≤◌, ◌∷◌, ◌++◌, [], ap, ◌∙◌, length, arith}
use Rattle.std.proofs.lemmas.List.{take_all}
use Rattle.cmd_parse.specs.Params.{params_of}
use Rattle.cmd_parse.proofs.PairLaws.{params_of-length, params_of-more}
use Rattle.cmd_parse.proofs.params.params_of.Goals as goal

pub loop-place-preserved : goal.loop-place-preserved
loop-place-preserved c =
    c.in_ok-push.ensures.items
    ∙ (ap (λ param. c.loop-place.copies.items ++ param ∷ []) c.in_ok-param.ensures
    ∙ params_of-more c.args.words.now c.loop-place.place _ _ _ (omega arith) c.loop-place.invariant c.word-name.ensures c.word-value.ensures)

pub returns : goal.returns
returns c =
    let end : length (params_of c.args.words.now) ≤ c.loop-place.place = omega (arith, params_of-length c.args.words.now) in
    c.from_vec.ensures ∙ (c.loop-place.invariant ∙ take_all c.loop-place.place (params_of c.args.words.now) end)
