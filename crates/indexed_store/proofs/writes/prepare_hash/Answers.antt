use Rattle.std.specs.Prelude.{OnOk}
use Rattle.std.proofs.Common.{◌<◌, length, refl, subst, sym}
use Rattle.ft_base.specs.Docs.{Doc}
use Rattle.ft_meaning.specs.Meaning.{ValuesFit}
use Rattle.indexed_store.specs.Standing.{InStep}
use Rattle.indexed_store.proofs.StepLaws.{in_step-later}
use Rattle.indexed_store.specs.Listed.{EntersDoc}
use Rattle.indexed_store.specs.Moving.{IndexesMove}
use Rattle.indexed_store.proofs.writes.prepare_hash.Goals as goal

pub returns-in_err-doc-clause-kept : goal.returns-in_err-doc-clause-kept
returns-in_err-doc-clause-kept c = in_step-later c.args.store.now c.args.indexes.now c.args.id c.requires.kept

pub prepare_write-requires : goal.prepare_write-requires
prepare_write-requires c =
    let made = c.in_ok-doc.ensures in (
      refl,
      (
        subst (λ (doc : Doc). 0 < length doc.hash) (sym made) c.requires.filled,
        (
          subst (λ (doc : Doc). ValuesFit doc.hash) (sym made) c.requires.values,
          subst (λ (doc : Doc). InStep c.args.store.now c.args.indexes.now doc.id) (sym made) c.requires.kept,
        ),
      ),
    )

pub returns-clause-moves : goal.returns-clause-moves
returns-clause-moves c = subst (λ (doc : Doc). IndexesMove doc.id c.args.indexes.now c.prepare_write.new.indexes) c.in_ok-doc.ensures c.prepare_write.ensures.moves

pub returns-clause-enters : goal.returns-clause-enters
returns-clause-enters c = subst (λ (doc : Doc). OnOk c.prepare_write.result (EntersDoc doc c.args.indexes.now c.prepare_write.new.indexes)) c.in_ok-doc.ensures c.prepare_write.ensures.enters
