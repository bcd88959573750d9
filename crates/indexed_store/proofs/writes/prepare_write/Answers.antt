use Rattle.std.specs.Prelude.{◌<◌, ◌+◌, ℕ, List}
use Rattle.indexed_store.specs.Moving.{IndexesMove}
use Rattle.std.proofs.Common.{◌∙◌, ap, subst, sym, arith}
use Rattle.ft_base.specs.Docs.{Doc}
use Rattle.indexed_store.specs.Standing.{AreWritten}
use Rattle.hash_store.specs.Store.{Store}
use Rattle.indexed_store.proofs.StepLaws.{in_step-unwritten}
use Rattle.indexed_store.proofs.writes.prepare_write.Goals as goal

pub returns-in_err-prepare_all-clause-kept : goal.returns-in_err-prepare_all-clause-kept
returns-in_err-prepare_all-clause-kept g c =
    in_step-unwritten c.args.store.now g.space c.args.doc.id c.prepare_all.new.markers c.prepare_all.new.indexes c.requires.0 (omega (arith, c.requires.1.1.1.last))
    (subst (λ (docs : List Doc). AreWritten docs c.args.doc.id) c.requires.0 c.requires.1.1.1.documents) (c.prepare_all.ensures.event ∙ c.id.ensures) c.prepare_all.ensures.stand c.prepare_all.ensures.apart

pub returns-in_err-put-clause-kept : goal.returns-in_err-put-clause-kept
returns-in_err-put-clause-kept g c =
    let same = c.in_err-put.ensures.err in
    in_step-unwritten c.prepare_put.new.self g.space c.args.doc.id c.prepare_all.new.markers c.prepare_all.new.indexes (ap (λ (s : Store). s.space) same ∙ c.requires.0)
    (subst (λ (s : Store). s.last < c.args.doc.id + 1) (sym same) (omega (arith, c.requires.1.1.1.last)))
    (subst (λ (docs : List Doc). AreWritten docs c.args.doc.id) c.requires.0 c.requires.1.1.1.documents) (c.prepare_all.ensures.event ∙ c.id.ensures) c.prepare_all.ensures.stand c.prepare_all.ensures.apart

pub returns-clause-kept : goal.returns-clause-kept
returns-clause-kept g c =
    let put = c.in_ok-put.ensures.ok in
    in_step-unwritten c.prepare_put.new.self g.space c.args.doc.id c.prepare_all.new.markers c.prepare_all.new.indexes (ap (λ (s : Store). s.space) put ∙ c.requires.0)
    (omega (arith, ap (λ (s : Store). s.last) put))
    (subst (λ (docs : List Doc). AreWritten docs c.args.doc.id) c.requires.0 c.requires.1.1.1.documents) (c.prepare_all.ensures.event ∙ c.id.ensures) c.prepare_all.ensures.stand c.prepare_all.ensures.apart

pub returns-in_err-prepare_all-clause-moves : goal.returns-in_err-prepare_all-clause-moves
returns-in_err-prepare_all-clause-moves g c = subst (λ (event : ℕ). IndexesMove event c.args.indexes.now c.prepare_all.new.indexes) c.id.ensures c.prepare_all.ensures.moves

pub returns-in_err-put-clause-moves : goal.returns-in_err-put-clause-moves
returns-in_err-put-clause-moves g c = subst (λ (event : ℕ). IndexesMove event c.args.indexes.now c.prepare_all.new.indexes) c.id.ensures c.prepare_all.ensures.moves

pub returns-clause-moves : goal.returns-clause-moves
returns-clause-moves g c = subst (λ (event : ℕ). IndexesMove event c.args.indexes.now c.prepare_all.new.indexes) c.id.ensures c.prepare_all.ensures.moves
