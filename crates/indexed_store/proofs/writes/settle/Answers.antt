use Rattle.std.proofs.Common.{◌∙◌, ap, subst, sym}
use Rattle.std.specs.Prelude.{List}
use Rattle.ft_index.specs.Index.{Index}
use Rattle.indexed_store.specs.Listed.{KeepLists}
use Rattle.indexed_store.specs.Moving.{IndexesMove}
use Rattle.indexed_store.proofs.ListedLaws.{keep-settled}
use Rattle.indexed_store.proofs.MovingLaws.{moves-settled}
use Rattle.indexed_store.specs.DefinitionsOf.{definitions_of}
use Rattle.indexed_store.proofs.StepLaws.{all-settled, settled-step}
use Rattle.indexed_store.proofs.writes.settle.Goals as goal

pub returns-clause-kept : goal.returns-clause-kept
returns-clause-kept c =
    settled-step c.args.store.now c.commit_put-replaced.new.self c.args.indexes.now c.commit_all.new.indexes c.args.put c.args.number c.args.store.now.ready c.commit_put-replaced.result c.requires.documents c.requires.kept
    c.requires.waits c.commit_put-replaced.ensures.replaced c.commit_put-replaced.ensures.written c.commit_all.ensures

pub returns-clause-definitions : goal.returns-clause-definitions
returns-clause-definitions c =
    ap definitions_of c.commit_all.ensures ∙ all-settled c.args.put c.args.number c.args.store.now.space c.args.store.now.ready c.commit_put-replaced.result c.args.indexes.now c.requires.waits

pub returns-clause-moves : goal.returns-clause-moves
returns-clause-moves c =
    subst (λ (xs : List Index). IndexesMove c.args.number c.args.indexes.now xs) (sym c.commit_all.ensures)
    (moves-settled c.args.put c.args.number c.args.store.now.space c.args.store.now.ready c.commit_put-replaced.result c.args.indexes.now c.requires.waits
    c.requires.kept.stand)

pub returns-clause-lists : goal.returns-clause-lists
returns-clause-lists c = subst (KeepLists c.args.indexes.now) (sym c.commit_all.ensures) (keep-settled c.commit_put-replaced.result c.args.indexes.now)
