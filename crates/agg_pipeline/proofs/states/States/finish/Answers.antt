use Rattle.std.proofs.Common.{◌∙◌, ap, sym, List, arith}
use Rattle.std.proofs.lemmas.Grind.{common_steps}
use Rattle.std.specs.Vec.Iter.{into_iter_items}
use Rattle.ft_base.specs.declared.row.Cell.{Cell}
use Rattle.agg_pipeline.specs.declared.state.State.{State}
use Rattle.agg_pipeline.specs.declared.step.Reducer.{Reducer}
use Rattle.agg_pipeline.specs.Made.{finished_cells, set_finished}
use Rattle.agg_pipeline.specs.Rows.{set_cells}
use Rattle.agg_pipeline.proofs.StatesLaws.{set-next}
use Rattle.agg_pipeline.proofs.states.States.finish.Goals as goal

pub loop-state-preserved : goal.loop-state-preserved
loop-state-preserved c =
    ap (λ (cells : List Cell). set_cells cells (finished_cells c.behind_first-reducers.result.now (into_iter_items c.next.new.self))) c.in_ok-set_finished.ensures
    ∙ ap (λ (reduce : List Reducer). set_cells (set_finished c.loop-state.cells c.loop-state.reducers.now c.in-Some.state) (finished_cells reduce (into_iter_items c.next.new.self))) c.behind_first-reducers.ensures
    ∙ set-next c.loop-state.cells c.loop-state.reducers.now c.in-Some.state (into_iter_items c.next.new.self)
    ∙ ap (λ (states : List State). set_cells c.loop-state.cells (finished_cells c.loop-state.reducers.now states)) (sym c.in-Some.ensures.steps.0)
    ∙ c.loop-state.invariant

pub returns : goal.returns
returns c = grind (arith, common_steps)
