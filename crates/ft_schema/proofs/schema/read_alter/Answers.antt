use Rattle.ft_schema.proofs.LawfulLaws.{added-lawful}
use Rattle.ft_schema.proofs.schema.read_alter.Goals as goal

pub returns-in-Ok-clause-lawful : goal.returns-in-Ok-clause-lawful
returns-in-Ok-clause-lawful c = added-lawful c.rest.result c.in-Ok.fields c.in-Ok.ensures
