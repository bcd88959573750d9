use Rattle.std.proofs.Common.{◌≡◌, ◌++◌, map}
use Rattle.agg_pipeline.specs.Table.{finished_row, table_of}
use Rattle.agg_pipeline.proofs.table.Groups.finish.Given as goal

-- the rows so far and those of the groups that are left
abbrev pub invariant-loop-group : goal.invariant-loop-group
invariant-loop-group l = l.rows.items ++ map (finished_row l.reduce) (table_of l.group-iterator) ≡ map (finished_row l.reduce) l.fn.self
