use Rattle.std.proofs.Common.{append_assoc, refl}
use Rattle.ft_engine.proofs.indexes.attributes.push_tag.Goals as goal

pub returns : goal.returns
returns c =
    simp (
      c.in_ok-push_word_if.ensures,
      c.in_ok-push_pair.ensures,
      c.in_ok-push_word.ensures,
      c.in_ok-separator.ensures,
      append_assoc,
    ) refl
