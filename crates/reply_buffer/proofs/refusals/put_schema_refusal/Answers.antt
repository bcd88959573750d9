use Rattle.std.proofs.Common.{◌∙◌, ap, sym}
use Rattle.reply_buffer.specs.Refused.{schema_refused}
use Rattle.reply_buffer.proofs.refusals.put_schema_refusal.Goals as goal

pub returns-in-BadKind-clause-fault : goal.returns-in-BadKind-clause-fault
returns-in-BadKind-clause-fault c = c.put_at-in-BadKind.ensures.fault ∙ ap schema_refused (sym c.in-BadKind.is)

pub returns-in-DuplicateField-clause-fault : goal.returns-in-DuplicateField-clause-fault
returns-in-DuplicateField-clause-fault c = c.put_at-in-DuplicateField.ensures.fault ∙ ap schema_refused (sym c.in-DuplicateField.is)

pub returns-in-TooManyFields-clause-fault : goal.returns-in-TooManyFields-clause-fault
returns-in-TooManyFields-clause-fault c = c.put_at-in-TooManyFields.ensures.fault ∙ ap schema_refused (sym c.in-TooManyFields.is)

pub returns-in-BadNumber-clause-fault : goal.returns-in-BadNumber-clause-fault
returns-in-BadNumber-clause-fault c = c.put_at-in-BadNumber.ensures.fault ∙ ap schema_refused (sym c.in-BadNumber.is)

pub returns-in-OutOfScope-clause-fault : goal.returns-in-OutOfScope-clause-fault
returns-in-OutOfScope-clause-fault c = c.put_at-in-OutOfScope.ensures.fault ∙ ap schema_refused (sym c.in-OutOfScope.is)
