use Rattle.std.proofs.Common.{List, ℕ, ap, ◌∙◌}
use Rattle.std.specs.Prelude.{pos}
use Rattle.id_iters.specs.Leaves.{list_has}
use Rattle.id_iters.specs.declared.list_name.ListName.TheVariants as names
use Rattle.query_plan.proofs.PlanLaws.{word_tells}
use Rattle.query_plan.proofs.words.plan_word.Goals as goal

pub returns-clause-set : goal.returns-clause-set
returns-clause-set g c =
    let held = g.T.Lists.held c.args.sources.now.lists.now in
    word_tells c.args.sources.now.def.now held (g.T.Lists.named c.args.sources.now.lists.now) c.args.fields.now c.args.word.now (pos 0) (pos 0) _
    (c.in_ok-plan_list.ensures.set ∙ ap (λ (text : List ℕ). list_has held (names.Word text) c.args.fields.now (pos 0) (pos 0)) c.in_ok-text.ensures.cases)
