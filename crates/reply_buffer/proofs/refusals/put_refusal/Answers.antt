use Rattle.std.proofs.Common.{◌∙◌, ap, sym}
use Rattle.reply_buffer.specs.Refused.{refused}
use Rattle.reply_buffer.proofs.refusals.put_refusal.Goals as goal

pub returns-in-NotInteger-clause-fault : goal.returns-in-NotInteger-clause-fault
returns-in-NotInteger-clause-fault c = c.put_fault-in-NotInteger.ensures.fault ∙ ap (refused c.args.name.now) (sym c.in-NotInteger.is)

pub returns-in-BadDb-clause-fault : goal.returns-in-BadDb-clause-fault
returns-in-BadDb-clause-fault c = c.put_fault-in-BadDb.ensures.fault ∙ ap (refused c.args.name.now) (sym c.in-BadDb.is)

pub returns-in-Limit-clause-fault : goal.returns-in-Limit-clause-fault
returns-in-Limit-clause-fault c = c.put_at-in-Limit.ensures.fault ∙ ap (refused c.args.name.now) (sym c.in-Limit.is)

pub returns-in-OutOfScope-clause-fault : goal.returns-in-OutOfScope-clause-fault
returns-in-OutOfScope-clause-fault c = c.put_at-in-OutOfScope.ensures.fault ∙ ap (refused c.args.name.now) (sym c.in-OutOfScope.is)
