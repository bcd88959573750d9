use Rattle.std.proofs.Common.{◌≡◌, ◌∙◌, ◌++◌, ap, sym}
use Rattle.agg_pipeline.specs.Equal.{spelled}
use Rattle.agg_pipeline.specs.Seen.{seen}
use Rattle.agg_pipeline.proofs.SpellingsLaws.{kept_last, kept_there}
use Rattle.agg_pipeline.proofs.spellings.Spellings.add.Goals as goal

pub returns-then-contains : goal.returns-then-contains
returns-then-contains c =
    let spelling_is : c.as_slice.result.now ≡ spelled (seen c.args.value) =
    c.as_slice.ensures.value ∙ (c.in_ok-spell_seen.ensures ∙ ap (λ bytes. bytes ++ spelled (seen c.args.value)) c.clear.ensures.items) in
    kept_there c.self.inside.known.keys _ _ _ c.self.view_is spelling_is (sym c.contains.ensures ∙ c.if-contains.true)

pub returns : goal.returns
returns c =
    let spelling_is : c.as_slice.result.now ≡ spelled (seen c.args.value) =
    c.as_slice.ensures.value ∙ (c.in_ok-spell_seen.ensures ∙ ap (λ bytes. bytes ++ spelled (seen c.args.value)) c.clear.ensures.items) in
    kept_last c.self.inside.known.keys _ c.in_ok-spelling.spelling _ _ _ c.self.view_is spelling_is
    (c.in_ok-spelling.ensures.items ∙ (c.as_slice-2.ensures.value ∙ sym c.as_slice.ensures.value))
    (sym c.contains.ensures ∙ c.if-contains.false) c.in_ok-insert.ensures.keys
