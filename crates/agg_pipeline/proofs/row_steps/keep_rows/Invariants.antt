use Rattle.std.specs.Prelude.{◌≡◌, ◌++◌, filter}
use Rattle.std.specs.Vec.Iter.{into_iter_items}
use Rattle.agg_pipeline.specs.Steps.{is_kept}
use Rattle.agg_pipeline.proofs.row_steps.keep_rows.Given as goal

-- the rows that were kept, and of those that are left the ones that will be
abbrev pub invariant-loop-row : goal.invariant-loop-row
invariant-loop-row l = l.kept.items ++ filter (is_kept l.def l.expr) (into_iter_items l.row-iterator) ≡ filter (is_kept l.def l.expr) l.fn.rows.items
