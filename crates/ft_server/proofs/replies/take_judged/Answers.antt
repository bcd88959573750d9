use Rattle.std.proofs.Common.{ℕ, List, ap, subst, ◌∙◌}
use Rattle.cmd_parse.specs.Fits.{name_fit}
use Rattle.ft_base.specs.declared.name_fit.NameFit.{NameFit}
use Rattle.tx_session.specs.Taking.{Takes}
use Rattle.ft_server.proofs.AnswerLaws.{lawful_later}
use Rattle.ft_server.proofs.replies.take_judged.Goals as goal

pub returns-clause-table : goal.returns-clause-table
returns-clause-table c =
    let words = c.args.decoder.now.words in
    subst (λ (fit : NameFit). Takes words fit c.args.session.now c.take.result c.take.new.self) (c.name_fit-fit.ensures.exact 0 ∙ ap (λ (ws : List (List ℕ)). name_fit 0 ws) c.words.ensures)
    (subst (λ (ws : List (List ℕ)). Takes ws c.name_fit-fit.result c.args.session.now c.take.result c.take.new.self) c.words-2.ensures c.take.ensures.table)

pub returns-clause-queue : goal.returns-clause-queue
returns-clause-queue c =
    let words = c.args.decoder.now.words in
    lawful_later words c.name_fit-fit.result c.args.session.now c.take.new.self c.take.result
    (subst (λ (ws : List (List ℕ)). Takes ws c.name_fit-fit.result c.args.session.now c.take.result c.take.new.self) c.words-2.ensures c.take.ensures.table)
    (c.requires.some, c.requires.limits) c.requires.queue
