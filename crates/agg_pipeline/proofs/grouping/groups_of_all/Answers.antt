use Rattle.std.proofs.Common.{◌∙◌, ap, map}
use Rattle.agg_pipeline.specs.Table.{finished_row}
use Rattle.agg_pipeline.proofs.GroupLaws.{finished_groups, table_is}
use Rattle.agg_pipeline.proofs.grouping.groups_of_all.Goals as goal

pub returns : goal.returns
returns c = λ def by reduce rows. ap (map (finished_row reduce)) (table_is def by reduce rows) ∙ finished_groups def by reduce rows
