use Rattle.std.proofs.Common.{◌≡◌}
use Rattle.std.specs.Vec.Iter.{into_iter_items}
use Rattle.agg_pipeline.specs.Made.{finished_cells}
use Rattle.agg_pipeline.specs.Rows.{set_cells}
use Rattle.agg_pipeline.proofs.states.States.finish.Given as goal

-- what was set and what is left are the whole
abbrev pub invariant-loop-state : goal.invariant-loop-state
invariant-loop-state l = set_cells l.cells (finished_cells l.reducers (into_iter_items l.state-iterator)) ≡ set_cells l.fn.cells (finished_cells l.reduce l.fn.self)
