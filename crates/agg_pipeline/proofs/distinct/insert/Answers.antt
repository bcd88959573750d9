use Rattle.std.proofs.Common.{◌≡◌, ◌∙◌, ap}
use Rattle.std.specs.Map.{values_of}
use Rattle.agg_pipeline.specs.Equal.{spelled}
use Rattle.agg_pipeline.specs.Seen.{seen}
use Rattle.agg_pipeline.proofs.DistinctLaws.{AreSpelled-insert, values_of-insert}
use Rattle.agg_pipeline.proofs.distinct.insert.Goals as goal

pub returns-clause-kept : goal.returns-clause-kept
returns-clause-kept c kept =
    let key_is : c.in_ok-key.key.items ≡ spelled (seen c.args.value) = c.in_ok-key.ensures.items ∙ c.requires.spelled in
    rw (c.in_ok-insert.ensures.entries, c.in_ok-value.ensures) (AreSpelled-insert c.in_ok-key.key (seen c.args.value) c.args.values.now.entries key_is kept)

pub returns-clause-ok : goal.returns-clause-ok
returns-clause-ok c kept =
    let key_is : c.in_ok-key.key.items ≡ spelled (seen c.args.value) = c.in_ok-key.ensures.items ∙ c.requires.spelled in
    ap values_of c.in_ok-insert.ensures.entries
    ∙ rw c.in_ok-value.ensures
    (values_of-insert c.in_ok-key.key (seen c.args.value) c.args.values.now.entries key_is kept
    (rw c.in_ok-key.ensures.items c.requires.absent))
