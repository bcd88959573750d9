use Rattle.std.proofs.Common.{◌∙◌, ap, ◌++◌, List, ℕ, w64}
use Rattle.std.specs.Prelude.{ℤ}
use Rattle.std.specs.Fmt.{signed_decimal}
use Rattle.std.proofs.lemmas.Int.{to_z-of_z}
use Rattle.reply_buffer.proofs.Spellings.{signed_written}
use Rattle.reply_buffer.proofs.short_reply.put_signed.Goals as goal

pub returns-clause-number : goal.returns-clause-number
returns-clause-number c =
    signed_written _ _ _ _ c.args.number c.requires.empty c.put_short.ensures.text
    (c.put_short-2.ensures.text ∙ ap (λ (t : List ℕ). c.put_short.new.out.items ++ t)
    (c.as_bytes.ensures.value ∙ (c.format.ensures.text ∙ ap (λ (n : ℤ). signed_decimal n) (to_z-of_z w64 c.args.number c.ranges.number)))) c.put_short-3.ensures.text
