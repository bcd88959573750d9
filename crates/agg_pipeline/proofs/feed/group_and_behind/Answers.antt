use Rattle.std.proofs.Common.{◌≡◌, ◌∷◌, List, map, subst, sym}
use Rattle.agg_pipeline.specs.declared.feed.Made.TheVariants.{Groups}
use Rattle.agg_pipeline.specs.declared.step.Step.{Step}
use Rattle.agg_pipeline.specs.declared.step.Step.TheVariants.{Group}
use Rattle.agg_pipeline.specs.Feeding.{EndsWith}
use Rattle.agg_pipeline.specs.Steps.{piped}
use Rattle.agg_pipeline.specs.Table.{finished_row}
use Rattle.agg_pipeline.proofs.FeedLaws.{groups-finished}
use Rattle.agg_pipeline.proofs.feed.group_and_behind.Goals as goal

pub returns-in-Some-Group-default : goal.returns-in-Some-Group-default
returns-in-Some-Group-default c def table =
    let is : c.args.later.now ≡ Group c.in-Some-Group-default.field-0-0-0 c.in-Some-Group-default.reduce ∷ c.in-Some-Group-default.behind.now =
    (rw c.in-Some-Group-default.field-0-0-is at c.in-Some-Group-default.ensures.cases).0 in
    rw c.as_slice.ensures
    (subst (λ (steps : List Step). EndsWith def steps (Groups table) (piped def c.in-Some-Group-default.behind.now (map (finished_row c.in-Some-Group-default.reduce) table))) (sym is)
    (groups-finished def c.in-Some-Group-default.field-0-0-0 c.in-Some-Group-default.reduce c.in-Some-Group-default.behind.now table))
