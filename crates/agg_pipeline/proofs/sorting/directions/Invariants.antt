use Rattle.std.specs.Prelude.{◌≡◌, ◌++◌, drop}
use Rattle.agg_pipeline.specs.Steps.{directions}
use Rattle.agg_pipeline.proofs.sorting.directions.Given as goal

-- the directions so far and those that are left are the whole
abbrev pub invariant-loop-key : goal.invariant-loop-key
invariant-loop-key l = l.by ++ directions (drop l.key-index l.keys) ≡ directions l.keys
