use Rattle.std.proofs.Common.{sym, subst, ap, ◌∙◌}
use Rattle.std.specs.Prelude.{List}
use Rattle.ft_index.specs.Index.{Index}
use Rattle.hash_store.specs.Erasing.{erase_id}
use Rattle.indexed_store.specs.Standing.{InStep}
use Rattle.indexed_store.specs.DefinitionsOf.{definitions_of}
use Rattle.indexed_store.proofs.StepLaws.{definitions-killed, in_step-erased_id, rest-same}
use Rattle.indexed_store.specs.Listed.{KeepLists}
use Rattle.indexed_store.proofs.ListedLaws.{keep-killed}
use Rattle.indexed_store.specs.Moving.{IndexesMove}
use Rattle.indexed_store.proofs.MovingLaws.{moves-killed}
use Rattle.indexed_store.proofs.removals.remove_id.Goals as goal

pub returns-clause-kept : goal.returns-clause-kept
returns-clause-kept c next step =
    subst (λ (indexes : List Index). InStep c.erase_id.new.self indexes next) (sym c.kill_all.ensures)
    (in_step-erased_id c.args.store.now c.erase_id.new.self c.args.id c.args.indexes.now next c.erase_id.ensures step)

pub returns-clause-definitions : goal.returns-clause-definitions
returns-clause-definitions c = ap definitions_of c.kill_all.ensures ∙ definitions-killed c.args.id c.args.indexes.now

pub returns-clause-rest : goal.returns-clause-rest
returns-clause-rest c = rest-same c.args.store.now c.erase_id.new.self (erase_id c.args.store.now.space c.args.id) c.erase_id.ensures

pub returns-clause-moves : goal.returns-clause-moves
returns-clause-moves c event = subst (λ (xs : List Index). IndexesMove event c.args.indexes.now xs) (sym c.kill_all.ensures) (moves-killed event c.args.id c.args.indexes.now)

pub returns-clause-lists : goal.returns-clause-lists
returns-clause-lists c = subst (KeepLists c.args.indexes.now) (sym c.kill_all.ensures) (keep-killed c.args.id c.args.indexes.now)
