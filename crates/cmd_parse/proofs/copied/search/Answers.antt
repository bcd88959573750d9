use Rattle.cmd_parse.proofs.SearchLaws.{search-lawful}
use Rattle.cmd_parse.proofs.copied.search.Goals as goal

pub returns-in-Ok-clause-lawful : goal.returns-in-Ok-clause-lawful
returns-in-Ok-clause-lawful c = search-lawful c.args.words.now _ c.in-Ok.ensures.exact
