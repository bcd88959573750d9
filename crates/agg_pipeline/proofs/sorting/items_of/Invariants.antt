use Rattle.std.specs.Prelude.{◌≡◌, ◌++◌}
use Rattle.std.specs.Vec.Iter.{into_iter_items}
use Rattle.agg_pipeline.specs.Ranking.{items_of}
use Rattle.agg_pipeline.proofs.sorting.items_of.Given as goal

-- the rows so far and those that are left are the whole
abbrev pub invariant-loop-row : goal.invariant-loop-row
invariant-loop-row l = l.rows.items ++ items_of (into_iter_items l.row-iterator) ≡ items_of l.fn.ranked.items
