use Rattle.std.proofs.Common.{◌∙◌, ap, subst, sym, [], refl}
use Rattle.std.specs.Prelude.{is_some}
use Rattle.cmd_parse.specs.Asked.{CursorDel}
use Rattle.cursor_book.specs.Cursors.{cursor_of, without}
use Rattle.ft_base.specs.declared.definition.IndexDef.{IndexDef}
use Rattle.ft_machine.specs.Step.{Does}
use Rattle.ft_engine.proofs.CursorLaws.{deletes-cursor, deletes-none, deletes-unknown, found-known, prepares-quiet}
use Rattle.ft_engine.proofs.IndexCommandLaws.{named-none, named-some, stays-same}
use Rattle.indexed_store.specs.DefinitionsOf.{defined, definitions_of}
use Rattle.indexed_store.specs.Holding.{state_of}
use Rattle.reply_buffer.proofs.Spellings.{ok_written}
use Rattle.ft_engine.proofs.indexes.cursors.delete_cursor.Goals as goal

pub returns-in_default-clause-prepares : goal.returns-in_default-clause-prepares
returns-in_default-clause-prepares c =
    let held = c.args.held.now in
    prepares-quiet _ held held _ _ refl (stays-same held) refl
    (deletes-unknown c.args.index.now c.args.id held.next (state_of held) _ (named-none held.indexes (definitions_of held.indexes) c.args.index.now refl c.in_default.ensures) c.set_fault.ensures.bytes)

pub returns-then-not-there-clause-prepares : goal.returns-then-not-there-clause-prepares
returns-then-not-there-clause-prepares c =
    let held = c.args.held.now in
    let index = c.in-Some.index.now in
    let there = named-some held.indexes (definitions_of held.indexes) c.args.index.now index refl c.in-Some.ensures in
    let none = ap (λ (d : IndexDef). is_some (cursor_of d.serial c.args.id held.cursors)) (sym c.def.ensures.def)
    ∙ found-known c.cursor.result _ _ c.cursor.ensures (sym c.is_some-there.ensures ∙ c.if-not-there.true) in
    prepares-quiet _ held held _ _ refl (stays-same held) refl
    (deletes-none c.args.index.now c.args.id held.next (state_of held) _ (defined index) there none c.set_fault-then-not-there.ensures.bytes)

pub returns-clause-prepares : goal.returns-clause-prepares
returns-clause-prepares c =
    let held = c.args.held.now in
    let index = c.in-Some.index.now in
    let there = named-some held.indexes (definitions_of held.indexes) c.args.index.now index refl c.in-Some.ensures in
    let some = ap (λ (d : IndexDef). is_some (cursor_of d.serial c.args.id held.cursors)) (sym c.def.ensures.def)
    ∙ found-known c.cursor.result _ _ c.cursor.ensures (sym c.is_some-there.ensures ∙ c.if-not-there.false) in
    prepares-quiet _ held held _ _ refl (stays-same held) refl
    (subst (λ (d : IndexDef). Does (CursorDel c.args.index.now c.args.id) held.next (state_of held) c.set_short.new.self.bytes (record (state_of held) { cursors = without d.serial c.args.id held.cursors })) (sym c.def.ensures.def)
    (deletes-cursor c.args.index.now c.args.id held.next (state_of held) _ (defined index) there some (ok_written [] _ refl c.set_short.ensures.bytes)))
