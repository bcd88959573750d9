use Rattle.query_parse.proofs.NameLemmas.{name-added}
use Rattle.query_parse.proofs.name_set.add_name.Goals as goal

pub returns : goal.returns
returns c = λ other. name-added c.args.names.now.known.keys c.insert.new.self.keys c.in_ok-name.name c.args.name.now other c.in_ok-insert.field-0 c.in_ok-name.ensures.items c.in_ok-insert.ensures.added c.in_ok-insert.ensures.keys
