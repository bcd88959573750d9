use Rattle.std.proofs.Common.{List, ℕ, map, ap, ◌∙◌}
use Rattle.std.specs.Prelude.{pos}
use Rattle.id_iters.specs.declared.list_name.ListName.TheVariants as names
use Rattle.query_plan.specs.Sought.{words_with}
use Rattle.query_plan.proofs.PlanLaws.{prefix_tells}
use Rattle.query_plan.proofs.words.plan_prefix.Goals as goal

pub returns-clause-set : goal.returns-clause-set
returns-clause-set g c =
    let held = g.T.Lists.held c.args.sources.now.lists.now in
    let named = g.T.Lists.named c.args.sources.now.lists.now in
    prefix_tells c.args.sources.now.def.now held named c.args.fields.now c.args.text.now (pos 0) (pos 0) _ _
    c.in_ok-plan_lists.ensures.set
    (c.in_ok-lists.ensures ∙ ap (λ (text : List ℕ). map (λ (word : List ℕ). names.Word word) (words_with text named.words)) c.as_slice.ensures)
