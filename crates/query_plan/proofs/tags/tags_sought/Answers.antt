use Rattle.std.proofs.Common.{◌+◌, ◌∙◌, take, List, ℕ, map, sym, ap, arith}
use Rattle.std.proofs.lemmas.Grind.{common_steps}
use Rattle.ft_base.specs.declared.query.TagPart.{TagPart}
use Rattle.id_iters.specs.declared.list_name.ListName.TheVariants as names
use Rattle.query_merge.specs.Merged.{marked}
use Rattle.query_merge.proofs.MarkLaws.{marked_more, marked_same}
use Rattle.query_plan.specs.Sought.{all_sought}
use Rattle.query_plan.proofs.TagLaws.{sought_more}
use Rattle.query_plan.proofs.tags.tags_sought.Goals as goal

pub parts-preserved : goal.parts-preserved
parts-preserved g c =
    let tags = (g.T.Lists.named c.args.sources.now.lists.now).tags c.args.field in
    sought_more (λ (tag : List ℕ). names.Tag c.args.field tag) tags (marked (take c.parts.at c.args.parts.now) c.args.marks.now)
    (marked (take (c.parts.at + 1) c.args.parts.now) c.args.marks.now) c.index-parts-at.result c.parts.found.items c.add_sought.new.found.items
    (marked_more c.args.parts.now c.args.marks.now c.parts.at c.index-parts-at.result c.parts-test.true c.index-parts-at.is (sym c.is_set.ensures ∙ c.if-not-is_set.false))
    c.parts.invariant c.in_ok-add_sought.ensures

pub parts-preserved-then-not-is_set : goal.parts-preserved-then-not-is_set
parts-preserved-then-not-is_set g c =
    let tags = (g.T.Lists.named c.args.sources.now.lists.now).tags c.args.field in
    c.parts.invariant
    ∙ ap (λ (parts : List TagPart). map (λ (tag : List ℕ). names.Tag c.args.field tag) (all_sought tags parts))
    (sym (marked_same c.args.parts.now c.args.marks.now c.parts.at (sym c.is_set.ensures ∙ c.if-not-is_set.true)))

pub returns : goal.returns
returns g c = grind (arith, common_steps)
