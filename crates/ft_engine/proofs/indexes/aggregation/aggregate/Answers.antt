use Rattle.indexed_store.proofs.PreparingLaws.{prepares-read}
use Rattle.ft_engine.proofs.indexes.aggregation.aggregate.Goals as goal

pub returns-in-None-clause-prepares : goal.returns-in-None-clause-prepares
returns-in-None-clause-prepares c = prepares-read _ c.args.held.now c.answer_aggregate.new.held _ c.answer_aggregate.ensures.stays c.answer_aggregate.ensures.does
