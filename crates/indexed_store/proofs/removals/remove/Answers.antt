use Rattle.std.proofs.Common.{sym, subst, ap, ◌∙◌}
use Rattle.std.specs.Prelude.{List}
use Rattle.ft_index.specs.Index.{Index}
use Rattle.hash_store.specs.Store.{Store}
use Rattle.ft_base.specs.Space.{erase}
use Rattle.indexed_store.specs.Standing.{InStep}
use Rattle.indexed_store.specs.DefinitionsOf.{definitions_of}
use Rattle.indexed_store.proofs.StepLaws.{definitions-killed, in_step-absent, in_step-erased, rest-same}
use Rattle.indexed_store.specs.Listed.{KeepLists}
use Rattle.indexed_store.proofs.ListedLaws.{keep-killed}
use Rattle.indexed_store.specs.Moving.{IndexesMove}
use Rattle.indexed_store.proofs.MovingLaws.{moves-killed, moves_same}
use Rattle.indexed_store.proofs.removals.remove.Goals as goal

pub returns-in-Some-clause-kept : goal.returns-in-Some-clause-kept
returns-in-Some-clause-kept c next step =
    subst (λ (indexes : List Index). InStep c.erase.new.self indexes next) (sym c.kill_all.ensures)
    (in_step-erased c.args.store.now c.erase.new.self c.args.key.now c.in-Some.id c.args.indexes.now next (ap (λ (s : Store). s.space) c.erase.ensures.gone) (ap (λ (s : Store). s.last) c.erase.ensures.gone)
    (sym c.in-Some.is ∙ c.erase.ensures.was) step)

pub returns-in_default-clause-kept : goal.returns-in_default-clause-kept
returns-in_default-clause-kept c next step =
    in_step-absent c.args.store.now c.erase.new.self c.args.key.now c.args.indexes.now next (ap (λ (s : Store). s.space) c.erase.ensures.gone) (ap (λ (s : Store). s.last) c.erase.ensures.gone)
    (sym c.in_default.is ∙ c.erase.ensures.was) step

pub returns-in-Some-clause-definitions : goal.returns-in-Some-clause-definitions
returns-in-Some-clause-definitions c = ap definitions_of c.kill_all.ensures ∙ definitions-killed c.in-Some.id c.args.indexes.now

pub returns-in-Some-clause-rest : goal.returns-in-Some-clause-rest
returns-in-Some-clause-rest c = rest-same c.args.store.now c.erase.new.self (erase c.args.store.now.space c.args.key.now) c.erase.ensures.gone

pub returns-in_default-clause-rest : goal.returns-in_default-clause-rest
returns-in_default-clause-rest c = rest-same c.args.store.now c.erase.new.self (erase c.args.store.now.space c.args.key.now) c.erase.ensures.gone

pub returns-in-Some-clause-moves : goal.returns-in-Some-clause-moves
returns-in-Some-clause-moves c event = subst (λ (xs : List Index). IndexesMove event c.args.indexes.now xs) (sym c.kill_all.ensures) (moves-killed event c.in-Some.id c.args.indexes.now)

pub returns-in_default-clause-moves : goal.returns-in_default-clause-moves
returns-in_default-clause-moves c event = moves_same event c.args.indexes.now

pub returns-in-Some-clause-lists : goal.returns-in-Some-clause-lists
returns-in-Some-clause-lists c = subst (KeepLists c.args.indexes.now) (sym c.kill_all.ensures) (keep-killed c.in-Some.id c.args.indexes.now)
