use Rattle.std.proofs.Common.{◌≡◌, ◌∙◌, ◌++◌, ap, subst, sym}
use Rattle.agg_pipeline.specs.Distinct.{Values}
use Rattle.agg_pipeline.specs.Equal.{spelled, value_eq}
use Rattle.agg_pipeline.specs.Keyed.{add_first}
use Rattle.agg_pipeline.specs.Seen.{seen}
use Rattle.agg_pipeline.proofs.DistinctLaws.{add_first-found}
use Rattle.agg_pipeline.proofs.distinct.Distinct.add.Goals as goal

pub returns-then-contains_key : goal.returns-then-contains_key
returns-then-contains_key c =
    let key_is : c.spell_seen.new.out.items ≡ spelled (seen c.args.value) = c.in_ok-spell_seen.ensures ∙ ap (λ bytes. bytes ++ spelled (seen c.args.value)) c.clear.ensures.items in
    subst (λ (vs : Values). vs ≡ add_first value_eq vs (seen c.args.value)) c.self.view_is
    (sym (add_first-found c.as_slice.result.now (seen c.args.value) c.self.inside.values.entries (c.as_slice.ensures.value ∙ key_is) c.self.invariant
    (sym c.contains_key.ensures ∙ c.if-contains_key.true)))
