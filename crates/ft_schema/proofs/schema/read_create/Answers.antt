use Rattle.ft_schema.proofs.LawfulLaws.{index-lawful}
use Rattle.ft_schema.proofs.SerialLaws.{index-is_numbered}
use Rattle.ft_schema.proofs.schema.read_create.Goals as goal

pub returns-in-Ok-clause-lawful : goal.returns-in-Ok-clause-lawful
returns-in-Ok-clause-lawful c = index-lawful c.args.serial c.rest.result c.in-Ok.index c.in-Ok.ensures

pub returns-in-Ok-clause-serial : goal.returns-in-Ok-clause-serial
returns-in-Ok-clause-serial c = index-is_numbered c.args.serial c.rest.result c.in-Ok.index c.in-Ok.ensures
