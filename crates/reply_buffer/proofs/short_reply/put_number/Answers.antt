use Rattle.std.proofs.Common.{◌∙◌, ap, ◌++◌, List, ℕ}
use Rattle.reply_buffer.proofs.Spellings.{number_written}
use Rattle.reply_buffer.proofs.short_reply.put_number.Goals as goal

pub returns-clause-number : goal.returns-clause-number
returns-clause-number c =
    number_written _ _ _ _ c.args.number c.requires.empty c.put_short.ensures.text
    (c.put_short-2.ensures.text ∙ ap (λ (t : List ℕ). c.put_short.new.out.items ++ t) (c.as_bytes.ensures.value ∙ c.format.ensures.text)) c.put_short-3.ensures.text
