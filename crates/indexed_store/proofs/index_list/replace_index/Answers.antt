use Rattle.std.specs.Prelude.{◌≡◌, ℕ, List, position, refl}
use Rattle.std.proofs.Common.{◌∙◌, ap, sym, subst}
use Rattle.ft_base.specs.declared.definition.IndexDef.{IndexDef}
use Rattle.indexed_store.specs.Named.{is_named}
use Rattle.ft_index.specs.Index.{Index}
use Rattle.indexed_store.specs.DefinitionsOf.{definitions_of}
use Rattle.indexed_store.specs.Standing.{InStep, IndexStands, markers_at}
use Rattle.indexed_store.proofs.ApartLaws.{apart-set}
use Rattle.indexed_store.proofs.IndexingLaws.{all-set}
use Rattle.indexed_store.proofs.NamedLaws.{place-is, replaced-none, replaced-one}
use Rattle.std.proofs.lemmas.Slice.Eq.{bytes_eq-Decides}
use Rattle.indexed_store.specs.Listed.{lists_at}
use Rattle.indexed_store.proofs.ListedLaws.{placed-others}
use Rattle.indexed_store.specs.Moving.{IndexesMove}
use Rattle.indexed_store.proofs.MovingLaws.{moves-placed, moves_same}
use Rattle.indexed_store.proofs.index_list.replace_index.Goals as goal

pub returns-in-Some-clause-definitions : goal.returns-in-Some-clause-definitions
returns-in-Some-clause-definitions c =
    ap definitions_of c.put.ensures
    ∙ replaced-one c.args.indexes.now c.args.index c.in-Some.place
    (ap (λ (name : List ℕ). position (is_named name) c.args.indexes.now) (sym (c.as_slice.ensures ∙ ap (λ (d : IndexDef). d.name) c.def.ensures.def)) ∙ (sym c.place_of.ensures ∙ c.in-Some.is))

pub returns-in-Some-clause-kept : goal.returns-in-Some-clause-kept
returns-in-Some-clause-kept c store next stands others step =
    let P : List Index → Type 0 = λ indexes. InStep store indexes next in
    subst P (sym c.put.ensures) (record {
      last = step.last;
      documents = step.documents;
      stand = all-set (IndexStands store.space next (markers_at next)) c.args.indexes.now c.in-Some.place c.args.index (place-is (is_named _) c.args.indexes.now c.in-Some.place (sym c.in-Some.ensures)).1 stands (λ k d apart short. step.stand k d short);
      apart = apart-set c.args.indexes.now c.in-Some.place c.args.index (place-is (is_named _) c.args.indexes.now c.in-Some.place (sym c.in-Some.ensures)).1 (λ k d differ short. others k d short) step.apart;
    })

pub returns-in_default-clause-definitions : goal.returns-in_default-clause-definitions
returns-in_default-clause-definitions c =
    replaced-none c.args.indexes.now c.args.index
    (ap (λ (name : List ℕ). position (is_named name) c.args.indexes.now) (sym (c.as_slice.ensures ∙ ap (λ (d : IndexDef). d.name) c.def.ensures.def)) ∙ sym c.in_default.ensures)

pub returns-in-Some-clause-moves : goal.returns-in-Some-clause-moves
returns-in-Some-clause-moves c event fresh =
    subst (λ (xs : List Index). IndexesMove event c.args.indexes.now xs) (sym c.put.ensures)
    (moves-placed event c.args.indexes.now c.in-Some.place c.args.index (place-is (is_named _) c.args.indexes.now c.in-Some.place (sym c.in-Some.ensures)).1 fresh)

pub returns-in_default-clause-moves : goal.returns-in_default-clause-moves
returns-in_default-clause-moves c event fresh = moves_same event c.args.indexes.now

pub returns-in-Some-clause-lists : goal.returns-in-Some-clause-lists
returns-in-Some-clause-lists c other apart =
    let found = ap (λ (name : List ℕ). position (is_named name) c.args.indexes.now) (sym (c.as_slice.ensures ∙ ap (λ (d : IndexDef). d.name) c.def.ensures.def)) ∙ (sym c.place_of.ensures ∙ c.in-Some.is) in
    ap (lists_at other) c.put.ensures
    ∙ placed-others c.args.indexes.now c.args.index.def.name other c.in-Some.place c.args.index c.args.index found ((bytes_eq-Decides c.args.index.def.name c.args.index.def.name).1 refl) apart

pub returns-in_default-clause-lists : goal.returns-in_default-clause-lists
returns-in_default-clause-lists c other apart = refl
