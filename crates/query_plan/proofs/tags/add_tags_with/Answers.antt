use Rattle.std.proofs.Common.{◌≡◌, ◌++◌, List, ℕ, map, length, Some, arith, sym, ap, ◌∙◌}
use Rattle.std.specs.Option.{option_copied}
use Rattle.id_iters.specs.declared.list_name.ListName.TheVariants as names
use Rattle.inverted_list.specs.Names.{next_name}
use Rattle.query_plan.proofs.NameLaws.{all_after, gathered_all, gathered_more, next_after, none_after, words_after}
use Rattle.query_plan.proofs.tags.add_tags_with.Goals as goal

pub tags-init : goal.tags-init
tags-init g c =
    let tags = (g.T.Lists.named c.args.sources.now.lists.now).tags c.args.field in
    ap (λ (sought : List (List ℕ)). c.args.found.now.items ++ map (λ tag. names.Tag c.args.field tag) sought) (all_after tags c.args.text.now)

pub tags-smaller : goal.tags-smaller
tags-smaller g c =
    let tags = (g.T.Lists.named c.args.sources.now.lists.now).tags c.args.field in
    let is : next_name tags c.args.text.now (option_copied c.tags.after) ≡ Some c.in-Some.tag.now = sym c.in_ok-tag.ensures.next ∙ ap option_copied c.in-Some.is in
    let next = next_after tags c.args.text.now (option_copied c.tags.after) c.in-Some.tag.now c.in_ok-tag.ensures.rise is in
    omega (arith, ap length next)

pub tags-preserved : goal.tags-preserved
tags-preserved g c =
    let tags = (g.T.Lists.named c.args.sources.now.lists.now).tags c.args.field in
    let is : next_name tags c.args.text.now (option_copied c.tags.after) ≡ Some c.in-Some.tag.now = sym c.in_ok-tag.ensures.next ∙ ap option_copied c.in-Some.is in
    let next = next_after tags c.args.text.now (option_copied c.tags.after) c.in-Some.tag.now c.in_ok-tag.ensures.rise is in
    gathered_more (λ (tag : List ℕ). names.Tag c.args.field tag) c.tags.found.items c.add_tag.new.found.items c.in-Some.tag.now
    (words_after c.args.text.now (option_copied c.tags.after) tags) (words_after c.args.text.now (Some c.in-Some.tag.now) tags) _
    c.tags.invariant next
    c.in_ok-add_tag.ensures

pub returns : goal.returns
returns g c =
    let tags = (g.T.Lists.named c.args.sources.now.lists.now).tags c.args.field in
    gathered_all (λ (tag : List ℕ). names.Tag c.args.field tag) c.tags.found.items (words_after c.args.text.now (option_copied c.tags.after) tags) _
    c.tags.invariant (none_after tags c.args.text.now (option_copied c.tags.after) (sym c.in_ok-tag.ensures.next ∙ ap option_copied c.in_default.is))
