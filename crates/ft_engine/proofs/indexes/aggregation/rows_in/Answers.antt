use Rattle.cmd_parse.specs.Aggregating.{aggregate_of}
use Rattle.ft_engine.proofs.AggregateLaws.{rows-by}
use Rattle.ft_engine.proofs.indexes.aggregation.rows_in.Goals as goal

pub returns-clause-reply : goal.returns-clause-reply
returns-clause-reply g c =
    rows-by (aggregate_of c.args.aggregate.now) c.args.query.now _ _ _ _ c.args.store.now c.aggregate_reply-made.new.store c.aggregate_reply-made.result c.as_slice.ensures c.def.ensures.def c.in_ok-iter.ensures.found
    c.aggregate_reply-made.ensures.reply c.aggregate_reply-made.ensures.fits c.aggregate_reply-made.ensures.reads
