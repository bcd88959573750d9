use Rattle.std.proofs.Common.{◌∙◌}
use Rattle.indexmap.proofs.MapLemmas.{OnOk-map}
use Rattle.agg_pipeline.proofs.CellsLaws.{found_set, none_set}
use Rattle.agg_pipeline.proofs.cells.set_cell.Goals as goal

pub returns-in-Some : goal.returns-in-Some
returns-in-Some c = c.set_value.ensures ∙ found_set _ _ c.args.value _ c.in-Some.ensures

pub returns-in-None : goal.returns-in-None
returns-in-None c = OnOk-map c.push_cell.result _ _ (λ put. put ∙ none_set _ _ c.args.value c.in-None.ensures) c.push_cell.ensures
