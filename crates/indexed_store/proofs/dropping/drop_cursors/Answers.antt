use Rattle.std.specs.Prelude.{None, Option, Some}
use Rattle.std.specs.Option.{option_map}
use Rattle.std.proofs.Common.{ap, sym, ◌≡◌, ◌∙◌}
use Rattle.cursor_book.specs.Cursors.{without_index as without_cursors}
use Rattle.ft_base.specs.declared.definition.IndexDef.{IndexDef}
use Rattle.ft_machine.specs.Definitions.{Defined, index_of}
use Rattle.indexed_store.specs.Changing.{without_cursors_of}
use Rattle.indexed_store.specs.DefinitionsOf.{defined, definitions_of}
use Rattle.indexed_store.proofs.NamedLaws.{index_of-named}
use Rattle.indexed_store.proofs.dropping.drop_cursors.Goals as goal

pub returns-in-Some : goal.returns-in-Some
returns-in-Some c =
    let named : index_of (definitions_of c.args.indexes.now) c.args.name.now ≡ Some (defined c.in-Some.index.now) =
    index_of-named c.args.indexes.now c.args.name.now ∙ ap (option_map defined) (sym c.in-Some.ensures) in
    c.drop_index.ensures ∙ (ap (λ (def : IndexDef). without_cursors def.serial c.args.cursors.now) c.def.ensures.def ∙ ap (λ (index : Option Defined). without_cursors_of index c.args.cursors.now) (sym named))

pub returns-in_default : goal.returns-in_default
returns-in_default c =
    let named : index_of (definitions_of c.args.indexes.now) c.args.name.now ≡ None = index_of-named c.args.indexes.now c.args.name.now ∙ ap (option_map defined) (sym c.in_default.ensures) in
    ap (λ (index : Option Defined). without_cursors_of index c.args.cursors.now) (sym named)
