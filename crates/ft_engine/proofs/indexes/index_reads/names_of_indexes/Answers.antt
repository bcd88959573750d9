use Rattle.ft_engine.proofs.IndexCommandLaws.{names-fit}
use Rattle.indexed_store.specs.DefinitionsOf.{definitions_of}
use Rattle.ft_engine.proofs.indexes.index_reads.names_of_indexes.Goals as goal

pub returns-clause-fits : goal.returns-clause-fits
returns-clause-fits c = names-fit (definitions_of c.args.indexes.now) c.in_ok-names.names c.in_ok-names.ensures
