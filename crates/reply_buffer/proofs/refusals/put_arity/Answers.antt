use Rattle.std.specs.Prelude.{codes}
use Rattle.reply_buffer.proofs.Spellings.{fault_of_three}
use Rattle.reply_buffer.proofs.refusals.put_arity.Goals as goal
use Rattle.token_text.specs.Tokens.{lowered}

pub returns-clause-fault : goal.returns-clause-fault
returns-clause-fault c =
    fault_of_three _ _ _ _ (codes "ERR wrong number of arguments for '") (lowered c.args.name.now) (codes "' command") c.requires.cleared.empty c.put_short.ensures.text
    c.put_lowered.ensures.text c.put_short-2.ensures.text
