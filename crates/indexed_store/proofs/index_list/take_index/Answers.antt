use Rattle.std.proofs.Common.{◌∙◌, sym, ap}
use Rattle.std.specs.Prelude.{List, Some, position}
use Rattle.ft_index.specs.Index.{Index}
use Rattle.indexed_store.specs.Named.{is_named}
use Rattle.indexed_store.proofs.NamedLaws.{none-left, none-taken, one-left, one-taken}
use Rattle.indexed_store.proofs.index_list.take_index.Goals as goal

pub returns-in_err-place-clause-taken : goal.returns-in_err-place-clause-taken
returns-in_err-place-clause-taken c =
    c.from_residual.ensures
    ∙ none-taken c.args.indexes.now.items c.args.name.now (ap (λ (xs : List Index). position (is_named c.args.name.now) xs) (sym c.as_slice.ensures.value) ∙ (sym c.place_of.ensures ∙ c.in_err-place.was))

pub returns-in_err-place-clause-others : goal.returns-in_err-place-clause-others
returns-in_err-place-clause-others c =
    none-left c.args.indexes.now.items c.args.name.now (ap (λ (xs : List Index). position (is_named c.args.name.now) xs) (sym c.as_slice.ensures.value) ∙ (sym c.place_of.ensures ∙ c.in_err-place.was))

pub returns-clause-taken : goal.returns-clause-taken
returns-clause-taken c =
    let found = ap (λ (xs : List Index). position (is_named c.args.name.now) xs) (sym c.as_slice.ensures.value) ∙ (sym c.place_of.ensures ∙ c.in_ok-place.was) in
    ap Some c.remove.ensures.value ∙ one-taken c.args.indexes.now.items c.args.name.now c.in_ok-place.place c.remove.result found

pub returns-clause-others : goal.returns-clause-others
returns-clause-others c =
    let found = ap (λ (xs : List Index). position (is_named c.args.name.now) xs) (sym c.as_slice.ensures.value) ∙ (sym c.place_of.ensures ∙ c.in_ok-place.was) in
    c.remove.ensures.items ∙ one-left c.args.indexes.now.items c.args.name.now c.in_ok-place.place c.remove.result found
