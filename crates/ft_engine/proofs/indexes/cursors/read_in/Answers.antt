use Rattle.std.proofs.Common.{◌∙◌, ap, sym, arith}
use Rattle.cursor_book.specs.Cursors.{cursor_of}
use Rattle.ft_base.specs.declared.definition.IndexDef.{IndexDef}
use Rattle.ft_engine.proofs.CursorLaws.{found-place, reads-next, reads-none, reads-unknown}
use Rattle.ft_engine.proofs.IndexCommandLaws.{named-none, named-some}
use Rattle.indexed_store.specs.DefinitionsOf.{defined}
use Rattle.ft_engine.proofs.SearchLaws.{readable}
use Rattle.ft_engine.proofs.indexes.cursors.read_in.Goals as goal

pub returns-in_default-clause-does : goal.returns-in_default-clause-does
returns-in_default-clause-does c number state space same cursors =
    reads-unknown c.args.name.now c.args.id c.args.count number state _ (named-none c.args.indexes.now state.definitions c.args.name.now same c.in_default.ensures) c.set_fault.ensures.bytes

pub read_next-requires-clause-id : goal.read_next-requires-clause-id
read_next-requires-clause-id c =
    let place = found-place c.def.result.now.serial c.args.id c.args.cursors.now c.in-Some-find.cursor.now (sym c.in-Some-find.ensures) in
    omega (arith, place.1, c.requires.id)

pub read_next-requires-clause-readable : goal.read_next-requires-clause-readable
read_next-requires-clause-readable c = readable c.args.store.now c.args.indexes.now c.args.name.now c.in-Some.index.now c.requires.step c.in-Some.ensures

pub returns-in-Some-find-clause-does : goal.returns-in-Some-find-clause-does
returns-in-Some-find-clause-does c number state space same cursors =
    let index = c.in-Some.index.now in
    let there = named-some c.args.indexes.now state.definitions c.args.name.now index same c.in-Some.ensures in
    let found = ap (cursor_of index.def.serial c.args.id) cursors
    ∙ (ap (λ (d : IndexDef). cursor_of d.serial c.args.id c.args.cursors.now) (sym c.def.ensures.def) ∙ sym c.in-Some-find.ensures) in
    reads-next c.args.name.now c.args.id c.args.count number state _ (defined index) there c.in-Some-find.cursor.now c.read_next.result c.args.store.now.space found space c.read_next.ensures.next

pub returns-in-None-clause-does : goal.returns-in-None-clause-does
returns-in-None-clause-does c number state space same cursors =
    let index = c.in-Some.index.now in
    let there = named-some c.args.indexes.now state.definitions c.args.name.now index same c.in-Some.ensures in
    let none = ap (cursor_of index.def.serial c.args.id) cursors
    ∙ (ap (λ (d : IndexDef). cursor_of d.serial c.args.id c.args.cursors.now) (sym c.def.ensures.def) ∙ sym c.in-None.ensures) in
    reads-none c.args.name.now c.args.id c.args.count number state _ (defined index) there none c.set_fault-in-None.ensures.bytes
