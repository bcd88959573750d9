use Rattle.std.proofs.Common.{true, false, sym, ◌∙◌}
use Rattle.reply_buffer.proofs.Spellings.{kind_written}
use Rattle.reply_buffer.proofs.short_reply.put_kind.Goals as goal

pub returns-then-there-clause-kind : goal.returns-then-there-clause-kind
returns-then-there-clause-kind c doc is = kind_written _ _ true doc c.requires.empty (sym c.if-there.true ∙ is) c.put_short.ensures.text

pub returns-else-there-clause-kind : goal.returns-else-there-clause-kind
returns-else-there-clause-kind c doc is = kind_written _ _ false doc c.requires.empty (sym c.if-there.false ∙ is) c.put_short-else-there.ensures.text
