use Rattle.std.proofs.Common.{refl, subst, sym}
use Rattle.ft_machine.specs.Step.{next_number}
use Rattle.indexed_store.specs.Standing.{InStep}
use Rattle.indexed_store.specs.declared.change.Change.TheVariants.{Move, Write}
use Rattle.indexed_store.proofs.ChangingLaws.{made-before}
use Rattle.indexed_store.proofs.MovingLaws.{moves_same}
use Rattle.indexed_store.proofs.making.make_documents.Goals as goal

pub settle-requires-clause-kept : goal.settle-requires-clause-kept
settle-requires-clause-kept c =
    subst (InStep c.args.store.now c.args.indexes.now) (made-before c.args.change (Write c.in-Write.put) c.args.number c.in-Write.is refl c.requires.before) c.requires.kept

pub settle_moved-requires-clause-kept : goal.settle_moved-requires-clause-kept
settle_moved-requires-clause-kept c =
    subst (InStep c.args.store.now c.args.indexes.now) (made-before c.args.change (Move c.in-Move.put c.in-Move.from) c.args.number c.in-Move.is refl c.requires.before) c.requires.kept

pub returns-in-Write-clause-kept : goal.returns-in-Write-clause-kept
returns-in-Write-clause-kept c =
    subst (InStep c.settle.new.store c.settle.new.indexes) (sym (made-before c.args.change (Write c.in-Write.put) c.args.number c.in-Write.is refl c.requires.before)) c.settle.ensures.kept

pub returns-in-Move-clause-kept : goal.returns-in-Move-clause-kept
returns-in-Move-clause-kept c =
    subst (InStep c.settle_moved.new.store c.settle_moved.new.indexes) (sym (made-before c.args.change (Move c.in-Move.put c.in-Move.from) c.args.number c.in-Move.is refl c.requires.before)) c.settle_moved.ensures.kept

pub returns-in-EraseKey-clause-kept : goal.returns-in-EraseKey-clause-kept
returns-in-EraseKey-clause-kept c = c.remove.ensures.kept (next_number c.args.number) c.requires.kept

pub returns-in-EraseKeys-clause-kept : goal.returns-in-EraseKeys-clause-kept
returns-in-EraseKeys-clause-kept c = c.remove_all.ensures.kept (next_number c.args.number) c.requires.kept

pub returns-in-EraseKey-clause-moves : goal.returns-in-EraseKey-clause-moves
returns-in-EraseKey-clause-moves c = c.remove.ensures.moves c.args.number

pub returns-in-EraseKeys-clause-moves : goal.returns-in-EraseKeys-clause-moves
returns-in-EraseKeys-clause-moves c = c.remove_all.ensures.moves c.args.number

pub returns-in_default-clause-moves : goal.returns-in_default-clause-moves
returns-in_default-clause-moves c = moves_same c.args.number c.args.indexes.now

pub returns-in_default-clause-lists : goal.returns-in_default-clause-lists
returns-in_default-clause-lists c = refl
