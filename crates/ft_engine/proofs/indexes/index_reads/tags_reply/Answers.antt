use Rattle.ft_engine.proofs.IndexCommandLaws.{tags-fit}
use Rattle.ft_engine.proofs.indexes.index_reads.tags_reply.Goals as goal

pub returns-clause-fits : goal.returns-clause-fits
returns-clause-fits c = tags-fit c.in_ok-tags.tags _ c.in_ok-tags.ensures.values
