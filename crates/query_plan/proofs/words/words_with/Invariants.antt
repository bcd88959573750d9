use Rattle.std.proofs.Common.{◌≡◌, ◌++◌, map, length}
use Rattle.std.specs.Option.{option_copied}
use Rattle.id_iters.specs.declared.list_name.ListName.TheVariants as names
use Rattle.query_plan.specs.Sought.{words_with}
use Rattle.query_plan.proofs.NameLaws.{words_after}
use Rattle.query_plan.proofs.words.words_with.Given as goal

abbrev pub invariant-words : goal.invariant-words
invariant-words g l =
    l.found.items ++ map (λ word. names.Word word) (words_after l.text (option_copied l.after) (g.T.Lists.named l.fn.sources.lists.now).words)
    ≡ map (λ word. names.Word word) (words_with l.text (g.T.Lists.named l.fn.sources.lists.now).words)

abbrev pub decreases-words : goal.decreases-words
decreases-words g l = length (words_after l.text (option_copied l.after) (g.T.Lists.named l.fn.sources.lists.now).words)
