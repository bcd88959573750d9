use Rattle.std.proofs.Common.{refl}
use Rattle.ft_engine.proofs.indexes.info_tree.definition.Goals as goal

-- what each push has put behind the others
pub returns-clause-replies : goal.returns-clause-replies
returns-clause-replies c =
    simp (
      c.in_ok-push_fields.ensures.pushed,
      c.in_ok-push_prefixes.ensures.pushed,
      c.in_ok-push_pair.ensures,
      c.new-replies.ensures.items,
      c.in_ok-name.ensures.cases,
    ) refl
