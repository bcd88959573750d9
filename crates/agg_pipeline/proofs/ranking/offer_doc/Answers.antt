use Rattle.std.proofs.Common.{◌∙◌, sym}
use Rattle.indexmap.proofs.MapLemmas.{OnOk-map}
use Rattle.agg_pipeline.proofs.RankingLaws.{held-next, some-is}
use Rattle.agg_pipeline.proofs.ranking.offer_doc.Goals as goal

pub returns-in-Some : goal.returns-in-Some
returns-in-Some c =
    OnOk-map c.offer_made.result _ _
    (λ told of_rows rows are.
    held-next c.args.def.now c.args.keys.now c.args.most rows _ c.args.held.now c.in-Some.held c.offer_made.new.held are
    (some-is (sym c.in-Some.is ∙ c.in_ok-begin.ensures)) (told of_rows))
    c.offer_made.ensures
