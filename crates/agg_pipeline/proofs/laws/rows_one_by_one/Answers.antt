use Rattle.agg_pipeline.proofs.RowMadeLaws.{row-made, rows-made}
use Rattle.agg_pipeline.proofs.laws.rows_one_by_one.Goals as goal

pub returns-clause-one : goal.returns-clause-one
returns-clause-one c = row-made

pub returns-clause-all : goal.returns-clause-all
returns-clause-all c = rows-made
