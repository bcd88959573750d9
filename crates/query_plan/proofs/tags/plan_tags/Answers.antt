use Rattle.std.proofs.Common.{Bool, List, ℕ, map, ap, subst, ◌∙◌}
use Rattle.std.specs.Prelude.{pos}
use Rattle.ft_base.specs.declared.query.Fields.TheVariants as fields
use Rattle.ft_base.specs.declared.query.TagPart.{TagPart}
use Rattle.id_iters.specs.declared.list_name.ListName.TheVariants as names
use Rattle.query_merge.specs.Merged.{AreParts, marked}
use Rattle.query_plan.specs.Sought.{all_sought}
use Rattle.query_plan.proofs.PlanLaws.{tags_tell}
use Rattle.query_plan.proofs.tags.plan_tags.Goals as goal

pub returns-clause-set : goal.returns-clause-set
returns-clause-set g c =
    let held = g.T.Lists.held c.args.sources.now.lists.now in
    let named = g.T.Lists.named c.args.sources.now.lists.now in
    tags_tell c.args.sources.now.def.now held named c.args.field c.args.parts.now (marked c.args.parts.now c.in_ok-marks.marks.items) fields.All (pos 0) (pos 0) _ _
    (subst (λ (parts : List TagPart). AreParts parts (marked parts c.in_ok-marks.marks.items)) c.as_slice-tags.ensures c.in_ok-marks.ensures)
    c.in_ok-plan_lists.ensures.set
    (c.in_ok-found.ensures
    ∙ ap (λ (parts : List TagPart). map (λ (tag : List ℕ). names.Tag c.args.field tag) (all_sought (named.tags c.args.field) (marked parts c.as_slice.result.now))) c.as_slice-tags.ensures
    ∙ ap (λ (marks : List Bool). map (λ (tag : List ℕ). names.Tag c.args.field tag) (all_sought (named.tags c.args.field) (marked c.args.parts.now marks))) c.as_slice.ensures.value)
