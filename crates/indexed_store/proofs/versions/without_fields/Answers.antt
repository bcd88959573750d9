use Rattle.std.proofs.Common.{◌∙◌}
use Rattle.std.proofs.lemmas.Result.{IfOk-weaker}
use Rattle.indexed_store.proofs.VersionsLaws.{left-named}
use Rattle.indexed_store.proofs.versions.without_fields.Goals as goal

pub returns : goal.returns
returns c =
    IfOk-weaker c.without.result _ _ (λ left same. same ∙ left-named c.args.hash.now c.in_ok-gone.gone c.args.fields.now c.in_ok-gone.ensures) c.without.ensures
