use Rattle.std.specs.Prelude.{◌<◌, is_some, length}
use Rattle.std.proofs.Common.{◌∙◌, ap, subst, sym}
use Rattle.std.proofs.lemmas.Result.{IfOk-weaker}
use Rattle.ft_base.specs.Hash.{Hash}
use Rattle.ft_base.specs.Space.{doc_of}
use Rattle.ft_meaning.specs.Meaning.{ValuesFit}
use Rattle.indexed_store.specs.Holding.{Holding}
use Rattle.indexed_store.proofs.WritesLaws.{found-filled, found-fits}
use Rattle.indexed_store.proofs.held.IndexedStore.copy_of.Goals as goal

pub returns-clause-fits : goal.returns-clause-fits
returns-clause-fits c =
    IfOk-weaker c.copy_of.result _ _ (λ hash same. subst ValuesFit (sym same) (found-fits c.self.inside.store.space c.args.key.now c.self.invariant.step.documents.fit)) c.copy_of.ensures.hash

pub returns-clause-filled : goal.returns-clause-filled
returns-clause-filled c =
    IfOk-weaker c.copy_of.result _ _ (λ hash same there. subst (λ (hash : Hash). 0 < length hash) (sym same)
    (found-filled c.self.inside.store.space c.args.key.now (ap (λ (h : Holding). is_some (doc_of h.space c.args.key.now)) c.self.view_is ∙ there) c.self.invariant.step.documents.filled)) c.copy_of.ensures.hash
