use Rattle.std.proofs.Common.{◌∙◌, ap, ◌++◌, List, ℕ}
use Rattle.std.specs.Fmt.{decimal}
use Rattle.reply_buffer.proofs.Spellings.{fault_of_pieces}
use Rattle.reply_buffer.proofs.refusals.put_place.Goals as goal

pub returns-clause-fault : goal.returns-clause-fault
returns-clause-fault c =
    fault_of_pieces _ _ _ _ _ c.args.text.now (decimal c.args.at) c.requires.cleared.empty c.put_short.ensures.text c.put_short-2.ensures.text
    (c.put_short-3.ensures.text ∙ ap (λ (t : List ℕ). c.put_short-2.new.out.items ++ t) (c.as_bytes.ensures.value ∙ c.format.ensures.text)) c.put_short-4.ensures.text
