use Rattle.std.specs.Prelude.{◌≡◌, map}
use Rattle.std.specs.Vec.Iter.{into_iter_items}
use Rattle.agg_pipeline.specs.Ranking.{offered, ranked}
use Rattle.agg_pipeline.proofs.sorting.offer_all.Given as goal

-- the first of the rows so far, and then of those that are left
abbrev pub invariant-loop-row : goal.invariant-loop-row
invariant-loop-row l = record {
  by : l.first.by ≡ l.fn.first.by;
  most : l.first.most ≡ l.fn.first.most;
  rows : offered l.fn.first.by l.fn.first.most l.first.rows (map (ranked l.def l.keys) (into_iter_items l.row-iterator)) ≡ offered l.fn.first.by l.fn.first.most l.fn.first.rows (map (ranked l.def l.keys) l.fn.rows.items);
}
