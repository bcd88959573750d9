use Rattle.std.proofs.Common.{◌≡◌, ◌∷◌, List, subst, sym}
use Rattle.agg_pipeline.specs.declared.feed.Made.TheVariants.{First}
use Rattle.agg_pipeline.specs.declared.step.Step.{Step}
use Rattle.agg_pipeline.specs.Feeding.{EndsWith}
use Rattle.agg_pipeline.specs.Ranking.{rows_held}
use Rattle.agg_pipeline.specs.Steps.{piped}
use Rattle.agg_pipeline.proofs.FeedLaws.{first-finished}
use Rattle.agg_pipeline.proofs.feed.behind_sort.Goals as goal

pub returns-in-Some : goal.returns-in-Some
returns-in-Some c def held =
    let is : c.args.later.now ≡ c.in-Some.field-0-0.now ∷ c.in-Some.behind.now = c.in-Some.ensures.cases.0 in
    subst (λ (steps : List Step). EndsWith def steps (First held) (piped def c.in-Some.behind.now (rows_held held))) (sym is)
    (first-finished def c.in-Some.field-0-0.now c.in-Some.behind.now held)
