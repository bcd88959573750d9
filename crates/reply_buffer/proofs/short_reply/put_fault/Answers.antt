use Rattle.std.proofs.Common.{◌++◌, ◌∷◌, [], ap, ◌∙◌, ℕ, List}
use Rattle.reply_buffer.proofs.Spellings.{fault_written}
use Rattle.reply_buffer.proofs.short_reply.put_fault.Goals as goal

pub returns-clause-fault : goal.returns-clause-fault
returns-clause-fault c =
    fault_written _ _ _ _ (c.put_short.ensures.text ∙ ap (λ (t : List ℕ). t ++ 45 ∷ []) c.requires.empty) c.put_short-2.ensures.text c.put_short-3.ensures.text
