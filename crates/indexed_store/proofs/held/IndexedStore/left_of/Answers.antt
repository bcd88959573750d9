use Rattle.std.proofs.Common.{subst, sym}
use Rattle.std.proofs.lemmas.Result.{IfOk-weaker}
use Rattle.ft_base.specs.Space.{doc_of}
use Rattle.ft_machine.specs.Reads.{hash_in}
use Rattle.ft_meaning.specs.Meaning.{ValuesFit}
use Rattle.indexed_store.proofs.WritesLaws.{found-fits, left-fits}
use Rattle.indexed_store.proofs.held.IndexedStore.left_of.Goals as goal

pub returns-clause-fits : goal.returns-clause-fits
returns-clause-fits c =
    let old = hash_in (doc_of c.self.inside.store.space c.args.key.now) in
    IfOk-weaker c.left_of.result _ _ (λ made same. subst ValuesFit (sym same) (left-fits old c.args.fields.now (found-fits c.self.inside.store.space c.args.key.now c.self.invariant.step.documents.fit))) c.left_of.ensures.left
