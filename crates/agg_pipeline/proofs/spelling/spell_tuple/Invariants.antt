use Rattle.std.proofs.Common.{◌≡◌, ◌++◌, drop}
use Rattle.expr_eval.specs.Lending.{row_of}
use Rattle.agg_pipeline.specs.Equal.{spelled_all}
use Rattle.agg_pipeline.specs.Grouping.{tuple_of}
use Rattle.agg_pipeline.proofs.spelling.spell_tuple.Given as goal

-- what is written and what is left are the whole
abbrev pub invariant-loop-name : goal.invariant-loop-name
invariant-loop-name l = l.out.items ++ spelled_all (tuple_of l.def (drop l.name-index l.by) (row_of l.row)) ≡ l.fn.out.items ++ spelled_all (tuple_of l.def l.by (row_of l.row))
