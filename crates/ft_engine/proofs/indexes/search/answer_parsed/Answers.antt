use Rattle.std.proofs.Common.{arith}
use Rattle.std.proofs.lemmas.Grind.{elements}
use Rattle.cmd_parse.specs.Seen.{search_of}
use Rattle.ft_machine.specs.Counted.{counted}
use Rattle.ft_engine.proofs.ExactLaws.{reads-found}
use Rattle.ft_engine.proofs.indexes.search.answer_parsed.Goals as goal

pub returns-clause-reads : goal.returns-clause-reads
returns-clause-reads c =
    let what = search_of c.args.search.now in
    let def = c.args.index.now.def in
    let docs = counted what c.args.query def c.args.store.now.space in
    reads-found what def docs c.set_made.new.self.bytes c.found_joined-found.result c.args.store.now.reads c.found_joined-found.new.store.reads
    c.found_joined-found.ensures.shows c.found_joined-found.ensures.store.rises c.set_made.ensures.told

pub returns-in-Some-clause-found : goal.returns-in-Some-clause-found
returns-in-Some-clause-found c = grind (arith, elements)
