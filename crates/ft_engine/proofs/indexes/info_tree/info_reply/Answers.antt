use Rattle.std.proofs.Common.{refl, ap, ◌∙◌}
use Rattle.ft_base.specs.declared.reply.Reply.TheVariants.{Array}
use Rattle.ft_engine.proofs.indexes.info_tree.info_reply.Goals as goal

-- what each push has put behind the others
pub returns-clause-reply : goal.returns-clause-reply
returns-clause-reply c =
    ap Array (c.from_vec.ensures ∙ simp (
      c.in_ok-push_count-4.ensures,
      c.in_ok-push_count-3.ensures,
      c.in_ok-push_count-2.ensures,
      c.in_ok-push_count.ensures,
      c.in_ok-replies.ensures.replies,
    ) refl)
