use Rattle.cmd_parse.specs.Aggregating.{aggregate_of}
use Rattle.ft_engine.proofs.ExactLaws.{reads-made}
use Rattle.ft_engine.proofs.indexes.aggregation.answer_parsed.Goals as goal

pub returns-clause-reads : goal.returns-clause-reads
returns-clause-reads c =
    reads-made (aggregate_of c.args.aggregate.now) c.args.query c.args.index.now.def c.set_made.new.self.bytes c.rows_in-made.result c.args.store.now c.rows_in-made.new.store
    c.rows_in-made.ensures.reply c.rows_in-made.ensures.store.rises c.set_made.ensures.told
