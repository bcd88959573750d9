use Rattle.std.proofs.Common.{◌≡◌, map, take}
use Rattle.id_iters.specs.declared.list_name.ListName.TheVariants as names
use Rattle.query_merge.specs.Merged.{marked}
use Rattle.query_plan.specs.Sought.{all_sought}
use Rattle.query_plan.proofs.tags.tags_sought.Given as goal

abbrev pub invariant-parts : goal.invariant-parts
invariant-parts g l = l.found.items ≡ map (λ tag. names.Tag l.field tag) (all_sought ((g.T.Lists.named l.fn.sources.lists.now).tags l.field) (marked (take l.at l.parts) l.marks))
