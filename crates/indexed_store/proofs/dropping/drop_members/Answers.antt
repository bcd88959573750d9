use Rattle.std.specs.Prelude.{drop, length}
use Rattle.std.proofs.Common.{◌∙◌, ap, sym, subst, arith}
use Rattle.std.proofs.lemmas.List.{take_at}
use Rattle.ft_index.specs.Index.{Index}
use Rattle.std.specs.Prelude.{List}
use Rattle.indexed_store.specs.DefinitionsOf.{definitions_of}
use Rattle.indexed_store.specs.Standing.{InStep}
use Rattle.indexed_store.proofs.DroppingLaws.{in_step-others, members-removed, no-members}
use Rattle.indexed_store.proofs.NamedLaws.{others-defined, others-fewer}
use Rattle.indexed_store.specs.Listed.{lists_at}
use Rattle.indexed_store.proofs.ListedLaws.{keep-at, without-at}
use Rattle.indexed_store.specs.Moving.{IndexesMove}
use Rattle.indexed_store.proofs.MovingLaws.{moves-again, moves-others}
use Rattle.indexed_store.proofs.dropping.drop_members.Goals as goal

pub returns-in-Some-clause-space : goal.returns-in-Some-clause-space
returns-in-Some-clause-space c next step =
    c.remove_live.ensures.space ∙ members-removed c.args.store.now.space next c.args.indexes.now.items c.args.name.now c.in-Some.index step.documents step.stand (sym c.in-Some.ensures.taken)

pub returns-in-Some-clause-definitions : goal.returns-in-Some-clause-definitions
returns-in-Some-clause-definitions c =
    ap definitions_of (take_at c.remove_live.new.indexes (drop (length c.remove_live.new.indexes) c.take_index.new.indexes.items) c.take_index.new.indexes.len (omega (arith, c.remove_live.auto.indexes, c.as_mut_slice.ensures.len)))
    ∙ (c.remove_live.ensures.definitions ∙ (ap definitions_of (c.as_mut_slice.ensures.value ∙ c.take_index.ensures.others) ∙ others-defined c.args.indexes.now.items c.args.name.now))

pub returns-in-Some-clause-kept : goal.returns-in-Some-clause-kept
returns-in-Some-clause-kept c next step =
    let others = in_step-others c.args.store.now c.args.indexes.now.items c.as_mut_slice.result.now c.args.name.now next (c.as_mut_slice.ensures.value ∙ c.take_index.ensures.others) step in
    subst (λ (is : List Index). InStep c.remove_live.new.store is next)
    (sym (take_at c.remove_live.new.indexes (drop (length c.remove_live.new.indexes) c.take_index.new.indexes.items) c.take_index.new.indexes.len (omega (arith, c.remove_live.auto.indexes, c.as_mut_slice.ensures.len))))
    (c.remove_live.ensures.kept next others)

pub returns-in-Some-clause-fewer : goal.returns-in-Some-clause-fewer
returns-in-Some-clause-fewer c =
    omega (
      arith,
      ap length (take_at c.remove_live.new.indexes (drop (length c.remove_live.new.indexes) c.take_index.new.indexes.items) c.take_index.new.indexes.len (omega (arith, c.remove_live.auto.indexes, c.as_mut_slice.ensures.len))),
      c.remove_live.auto.indexes,
      ap length (c.as_mut_slice.ensures.value ∙ c.take_index.ensures.others),
      others-fewer c.args.indexes.now.items c.args.name.now,
    )

pub returns-in_default-clause-space : goal.returns-in_default-clause-space
returns-in_default-clause-space c next step = no-members c.args.store.now.space c.args.indexes.now.items c.args.name.now c.in_default.ensures.taken

pub returns-in_default-clause-definitions : goal.returns-in_default-clause-definitions
returns-in_default-clause-definitions c = ap definitions_of c.take_index.ensures.others ∙ others-defined c.args.indexes.now.items c.args.name.now

pub returns-in_default-clause-kept : goal.returns-in_default-clause-kept
returns-in_default-clause-kept c next step = in_step-others c.args.store.now c.args.indexes.now.items c.take_index.new.indexes.items c.args.name.now next c.take_index.ensures.others step

pub returns-in_default-clause-fewer : goal.returns-in_default-clause-fewer
returns-in_default-clause-fewer c = omega (arith, ap length c.take_index.ensures.others, others-fewer c.args.indexes.now.items c.args.name.now)

pub returns-in-Some-clause-moves : goal.returns-in-Some-clause-moves
returns-in-Some-clause-moves c event =
    let others = subst (λ (xs : List Index). IndexesMove event c.args.indexes.now.items xs) (sym (c.as_mut_slice.ensures.value ∙ c.take_index.ensures.others)) (moves-others event c.args.indexes.now.items c.args.name.now) in
    subst (IndexesMove event c.args.indexes.now.items)
    (sym (take_at c.remove_live.new.indexes (drop (length c.remove_live.new.indexes) c.take_index.new.indexes.items) c.take_index.new.indexes.len (omega (arith, c.remove_live.auto.indexes, c.as_mut_slice.ensures.len))))
    (moves-again event event c.args.indexes.now.items c.as_mut_slice.result.now c.remove_live.new.indexes (omega arith) others (c.remove_live.ensures.moves event))

pub returns-in_default-clause-moves : goal.returns-in_default-clause-moves
returns-in_default-clause-moves c event = subst (λ (xs : List Index). IndexesMove event c.args.indexes.now.items xs) (sym c.take_index.ensures.others) (moves-others event c.args.indexes.now.items c.args.name.now)

pub returns-in-Some-clause-lists : goal.returns-in-Some-clause-lists
returns-in-Some-clause-lists c other apart =
    ap (lists_at other) (take_at c.remove_live.new.indexes (drop (length c.remove_live.new.indexes) c.take_index.new.indexes.items) c.take_index.new.indexes.len (omega (arith, c.remove_live.auto.indexes, c.as_mut_slice.ensures.len)))
    ∙ (keep-at other c.as_mut_slice.result.now c.remove_live.new.indexes c.remove_live.ensures.lists
    ∙ (ap (lists_at other) (c.as_mut_slice.ensures.value ∙ c.take_index.ensures.others) ∙ without-at c.args.indexes.now.items c.args.name.now other apart))

pub returns-in_default-clause-lists : goal.returns-in_default-clause-lists
returns-in_default-clause-lists c other apart = ap (lists_at other) c.take_index.ensures.others ∙ without-at c.args.indexes.now.items c.args.name.now other apart
