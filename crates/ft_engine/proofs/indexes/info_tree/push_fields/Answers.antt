use Rattle.std.proofs.Common.{refl}
use Rattle.ft_engine.proofs.indexes.info_tree.push_fields.Goals as goal

pub returns-clause-pushed : goal.returns-clause-pushed
returns-clause-pushed c = simp (c.in_ok-push_pair.ensures, c.in_ok-fields.ensures.reply, c.as_slice.ensures) refl
