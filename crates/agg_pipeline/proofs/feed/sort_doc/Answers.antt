use Rattle.std.proofs.Common.{◌≡◌, ◌∙◌, Some, ap, sym}
use Rattle.std.specs.Prelude.{slice_get}
use Rattle.indexmap.proofs.MapLemmas.{OnOk-map}
use Rattle.agg_pipeline.specs.declared.step.Step.TheVariants.{Sort}
use Rattle.agg_pipeline.proofs.FeedLaws.{sort-held}
use Rattle.agg_pipeline.proofs.feed.sort_doc.Goals as goal

pub returns-in-Some-Sort-default-Some : goal.returns-in-Some-Sort-default-Some
returns-in-Some-Sort-default-Some c =
    let step = c.in-Some-Sort-default-Some in
    let is : Some (Sort step.keys (Some step.max)) ≡ slice_get c.args.later.now 0 =
    ap Some (sym (step.field-0-is ∙ ap (Sort step.keys) step.field-0-1-is)) ∙ step.ensures.value in
    OnOk-map c.offer_doc.result _ _
    (λ told of_rows. sort-held c.args.def.now c.args.later.now step.keys step.max _ c.args.held.now c.offer_doc.new.held is ((rw c.as_slice.ensures at told) of_rows))
    c.offer_doc.ensures
