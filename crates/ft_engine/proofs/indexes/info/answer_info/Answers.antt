use Rattle.std.specs.Prelude.{Option, length}
use Rattle.std.proofs.Common.{◌∙◌, ap, arith, refl, subst, sym}
use Rattle.cursor_book.specs.Cursors.{cursors_of}
use Rattle.ft_base.specs.declared.definition.IndexDef.{IndexDef}
use Rattle.ft_index.specs.Index.{Index}
use Rattle.ft_base.specs.Words.{first}
use Rattle.ft_engine.proofs.ExactLaws.{tells-told}
use Rattle.ft_engine.proofs.InfoLaws.{found-by, informs-index, informs-none, told-at}
use Rattle.ft_engine.specs.Exactness.{TellsOf}
use Rattle.indexed_store.proofs.NamedLaws.{named-has}
use Rattle.indexed_store.specs.Holding.{state_of}
use Rattle.indexed_store.specs.Standing.{IndexStands, markers_at}
use Rattle.ft_engine.proofs.indexes.info.answer_info.Goals as goal

pub returns-in_default-clause-does : goal.returns-in_default-clause-does
returns-in_default-clause-does c =
    let held = c.args.held.now in
    informs-none held.indexes (state_of held) held.next c.args.args.now _ refl (found-by held.indexes (first c.args.args.now) c.word.result.now _ c.word.ensures c.in_default.ensures) c.set_fault.ensures.bytes

pub told-requires : goal.told-requires
told-requires c =
    let held = c.args.held.now in
    let stands = named-has (IndexStands held.space held.next (markers_at held.next)) held.indexes c.word.result.now c.in-Some.index.now (c.stand.ensures.stand held.next (omega arith)).indexes (sym c.in-Some.ensures) in
    record { few = omega (arith, stands.earlier, c.requires.number) }

pub returns-clause-does : goal.returns-clause-does
returns-clause-does c =
    let held = c.args.held.now in
    let index = c.in-Some.index.now in
    let stands = named-has (IndexStands held.space held.next (markers_at held.next)) held.indexes c.word.result.now index (c.stand.ensures.stand held.next (omega arith)).indexes (sym c.in-Some.ensures) in
    informs-index held.indexes index (state_of held) held.next c.args.args.now _ c.told.result refl (found-by held.indexes (first c.args.args.now) c.word.result.now _ c.word.ensures c.in-Some.ensures)
    (told-at index c.told.result held.space held.cursors c.cursor_count-cursors.result stands.documents (c.cursor_count-cursors.ensures ∙ ap (λ (d : IndexDef). length (cursors_of d.serial held.cursors)) c.def.ensures.def)
    c.told.ensures.tells) c.set_made.ensures.told

pub returns-in_default-clause-records : goal.returns-in_default-clause-records
returns-in_default-clause-records c =
    let held = c.args.held.now in
    subst (λ (found : Option Index). TellsOf found c.set_fault.new.self.bytes) (sym (found-by held.indexes (first c.args.args.now) c.word.result.now _ c.word.ensures c.in_default.ensures)) tt

pub returns-clause-records : goal.returns-clause-records
returns-clause-records c =
    let held = c.args.held.now in
    subst (λ (found : Option Index). TellsOf found c.set_made.new.self.bytes) (sym (found-by held.indexes (first c.args.args.now) c.word.result.now _ c.word.ensures c.in-Some.ensures))
    (tells-told c.in-Some.index.now c.cursor_count-cursors.result c.told.result c.set_made.new.self.bytes c.told.ensures.tells c.set_made.ensures.told)
