use Rattle.std.proofs.Common.{length, arith, ap, subst}
use Rattle.std.proofs.lemmas.Result.{IfOk-weaker}
use Rattle.load_maker.proofs.NumberLaws.{load_number}
use Rattle.ft_server.specs.Load.{Loaded, each_reply}
use Rattle.ft_server.proofs.load.summary_of.Goals as goal

pub play_alone-requires-clause-few : goal.play_alone-requires-clause-few
play_alone-requires-clause-few g c = omega (arith, ap length c.in_ok-decoder.ensures.commands, load_number c.args.seed c.args.docs, c.requires.few)

pub returns : goal.returns
returns g c =
    let all = c.in_ok-tally.ensures in
    IfOk-weaker c.lines.result _ _ (λ text is. (all.0, subst (λ commands. Loaded commands all.0) c.in_ok-decoder.ensures.commands all.1, is)) (c.lines.ensures (each_reply all.0) all.2)
