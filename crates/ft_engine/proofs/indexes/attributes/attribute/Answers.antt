use Rattle.std.proofs.Common.{refl, ap, ◌∙◌}
use Rattle.ft_base.specs.declared.reply.Reply.TheVariants.{Array}
use Rattle.ft_engine.proofs.indexes.attributes.attribute.Goals as goal

-- what each push has put behind the others
pub returns-clause-reply : goal.returns-clause-reply
returns-clause-reply c =
    ap Array (c.from_vec.ensures ∙ simp (
      c.in_ok-push_options.ensures,
      c.in_ok-push_kind.ensures,
      c.in_ok-push_word.ensures,
      c.in_ok-words.ensures,
    ) refl)
