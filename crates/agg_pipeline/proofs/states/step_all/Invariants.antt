use Rattle.std.proofs.Common.{◌≡◌, ◌++◌, take, drop}
use Rattle.expr_eval.specs.Lending.{row_of}
use Rattle.agg_pipeline.specs.Made.{states_step}
use Rattle.agg_pipeline.proofs.states.step_all.Given as goal

-- the states so far, and what the reducers that are left make of the others, are the whole
abbrev pub invariant-loop-at : goal.invariant-loop-at
invariant-loop-at l = take l.at l.states ++ states_step l.def (drop l.at l.reduce) (drop l.at l.states) (row_of l.row) ≡ states_step l.def l.reduce l.fn.states (row_of l.row)
