use Rattle.std.proofs.Common.{◌∙◌, ap, sym}
use Rattle.reply_buffer.specs.Refused.{query_refused}
use Rattle.reply_buffer.proofs.refusals.put_query_refusal.Goals as goal

pub returns-in-UnknownField-clause-fault : goal.returns-in-UnknownField-clause-fault
returns-in-UnknownField-clause-fault c = c.put_place-in-UnknownField.ensures.fault ∙ ap query_refused (sym c.in-UnknownField.is)

pub returns-in-WrongKind-clause-fault : goal.returns-in-WrongKind-clause-fault
returns-in-WrongKind-clause-fault c = c.put_place-in-WrongKind.ensures.fault ∙ ap query_refused (sym c.in-WrongKind.is)

pub returns-in-NoParam-clause-fault : goal.returns-in-NoParam-clause-fault
returns-in-NoParam-clause-fault c = c.put_place-in-NoParam.ensures.fault ∙ ap query_refused (sym c.in-NoParam.is)

pub returns-in-TooDeep-clause-fault : goal.returns-in-TooDeep-clause-fault
returns-in-TooDeep-clause-fault c = c.put_place-in-TooDeep.ensures.fault ∙ ap query_refused (sym c.in-TooDeep.is)
