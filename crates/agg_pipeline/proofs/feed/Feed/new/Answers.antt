use Rattle.std.proofs.Common.{List, [], refl, subst, sym}
use Rattle.ft_base.specs.declared.row.Row.{Row}
use Rattle.agg_pipeline.specs.declared.step.Step.{Step}
use Rattle.agg_pipeline.specs.Feeding.{IsMade, first_steps, later_steps}
use Rattle.agg_pipeline.proofs.StreamLaws.{piped-none}
use Rattle.agg_pipeline.proofs.feed.Feed.new.Goals as goal

pub returns : goal.returns
returns c = record {
  def_same = refl;
  load_same = refl;
  first = c.first_steps.ensures;
  later = c.later_steps-later.ensures;
  made =
      subst (λ (rows : List Row). IsMade c.args.def.now (later_steps c.args.steps.now) rows c.begin.result) (sym (piped-none c.args.def.now (first_steps c.args.steps.now)))
      (subst (λ (later : List Step). IsMade c.args.def.now later [] c.begin.result) c.later_steps-later.ensures (c.begin.ensures c.args.def.now));
}
