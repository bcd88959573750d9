use Rattle.cmd_parse.proofs.AggregateLaws.{aggregate-lawful}
use Rattle.cmd_parse.proofs.copied.aggregate.Goals as goal

pub returns-in-Ok-clause-lawful : goal.returns-in-Ok-clause-lawful
returns-in-Ok-clause-lawful c = aggregate-lawful c.args.words.now _ c.in-Ok.ensures.exact
