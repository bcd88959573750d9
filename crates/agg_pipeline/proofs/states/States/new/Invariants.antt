use Rattle.std.proofs.Common.{◌≡◌, ◌++◌, drop}
use Rattle.agg_pipeline.specs.Made.{starts}
use Rattle.agg_pipeline.proofs.states.States.new.Given as goal

-- what was made and what is left are the whole
abbrev pub invariant-loop-reducer : goal.invariant-loop-reducer
invariant-loop-reducer l = l.items.items ++ starts (drop l.reducer-index l.reduce) ≡ starts l.reduce
