use Rattle.std.specs.Prelude.{◌≡◌, ◌≤◌, ◌+◌, ◌++◌, length, map, vec_capacity}
use Rattle.std.specs.Vec.Iter.{into_iter_items}
use Rattle.agg_pipeline.specs.Ranking.{ranked}
use Rattle.agg_pipeline.proofs.sorting.rank_all.Given as goal

-- what was ranked and what is left are the whole, and there is room for it
abbrev pub invariant-loop-row : goal.invariant-loop-row
invariant-loop-row l = record {
  whole : l.made.items ++ map (ranked l.def l.keys) (into_iter_items l.row-iterator) ≡ map (ranked l.def l.keys) l.fn.rows.items;
  room : length l.made.items + length (into_iter_items l.row-iterator) ≤ vec_capacity l.made;
}
