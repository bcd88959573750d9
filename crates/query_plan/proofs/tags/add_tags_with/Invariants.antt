use Rattle.std.proofs.Common.{◌≡◌, ◌++◌, map, length}
use Rattle.std.specs.Option.{option_copied}
use Rattle.id_iters.specs.declared.list_name.ListName.TheVariants as names
use Rattle.query_plan.specs.Sought.{words_with}
use Rattle.query_plan.proofs.NameLaws.{words_after}
use Rattle.query_plan.proofs.tags.add_tags_with.Given as goal

abbrev pub invariant-tags : goal.invariant-tags
invariant-tags g l =
    l.found.items ++ map (λ tag. names.Tag l.field tag) (words_after l.text (option_copied l.after) ((g.T.Lists.named l.fn.sources.lists.now).tags l.field))
    ≡ l.initial.found.items ++ map (λ tag. names.Tag l.field tag) (words_with l.text ((g.T.Lists.named l.fn.sources.lists.now).tags l.field))

abbrev pub decreases-tags : goal.decreases-tags
decreases-tags g l = length (words_after l.text (option_copied l.after) ((g.T.Lists.named l.fn.sources.lists.now).tags l.field))
