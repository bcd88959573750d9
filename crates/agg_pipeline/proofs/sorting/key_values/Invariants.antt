use Rattle.std.specs.Prelude.{◌≡◌, ◌++◌, drop}
use Rattle.expr_eval.specs.Lending.{row_of}
use Rattle.agg_pipeline.specs.Steps.{key_values}
use Rattle.agg_pipeline.proofs.sorting.key_values.Given as goal

-- the values so far and those that are left are the whole
abbrev pub invariant-loop-key : goal.invariant-loop-key
invariant-loop-key l = l.values ++ key_values l.def (drop l.key-index l.keys) (row_of l.row) ≡ key_values l.def l.keys (row_of l.row)
