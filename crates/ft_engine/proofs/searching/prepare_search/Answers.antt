use Rattle.cmd_parse.specs.Asked.{Search}
use Rattle.cmd_parse.specs.Seen.{search_of}
use Rattle.indexed_store.proofs.PreparingLaws.{prepares-read}
use Rattle.ft_engine.proofs.searching.prepare_search.Goals as goal

pub returns-clause-prepares : goal.returns-clause-prepares
returns-clause-prepares c = prepares-read (Search (search_of c.args.search)) _ _ _ c.answer_search.ensures.stays c.answer_search.ensures.does
