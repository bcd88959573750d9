use Rattle.std.proofs.Common.{◌∙◌, ap, sym, arith, subst}
use Rattle.std.specs.Prelude.{None, Option}
use Rattle.cmd_parse.specs.Asked.{CursorRead}
use Rattle.cursor_book.specs.declared.cursor.Cursor.{Cursor}
use Rattle.ft_machine.specs.Machine.{State}
use Rattle.ft_machine.specs.Step.{Does}
use Rattle.indexed_store.proofs.MovingLaws.{moves-kept}
use Rattle.ft_engine.proofs.CursorLaws.{prepares-quiet, quiet-waits, seen-all}
use Rattle.indexed_store.specs.Changing.{changed}
use Rattle.indexed_store.specs.DefinitionsOf.{definitions_of}
use Rattle.indexed_store.specs.Holding.{Holding, state_of}
use Rattle.ft_engine.proofs.SearchLaws.{readable-held}
use Rattle.ft_engine.proofs.indexes.cursors.read_cursor.Goals as goal

pub read_in-requires-clause-step : goal.read_in-requires-clause-step
read_in-requires-clause-step c =
    readable-held c.held.inside.store c.held.inside.indexes.items _ _ _ c.as_slice.ensures.value (ap (λ (h : Holding). h.next) c.held.view_is) c.requires.number c.held.invariant.step

pub returns-clause-prepares : goal.returns-clause-prepares
returns-clause-prepares c =
    let held = c.args.held.now in
    let inside = c.held.inside in
    let is = c.held.view_is in
    let state = state_of held in
    let change = c.read_in.result in
    let none = ap (λ (h : Holding). h.opens) is ∙ c.requires.none in
    let done = c.read_in.ensures.does held.next state (sym (ap (λ (h : Holding). h.space) is)) (ap definitions_of (sym (ap (λ (h : Holding). h.indexes) is) ∙ sym c.as_slice.ensures.value))
    (sym (ap (λ (h : Holding). h.cursors) is) ∙ seen-all inside.opens inside.cursors inside.next c.held.invariant.kept none) in
    let same = quiet-waits change c.read_in.new.store.ready None state c.read_in.ensures.quiet ∙ ap (λ (o : Option Cursor). changed change c.read_in.new.store.ready o state) (sym none) in
    prepares-quiet _ held _ _ change c.read_in.ensures.quiet (record {
      space = c.read_in.ensures.store.space ∙ ap (λ (h : Holding). h.space) is;
      definitions = ap (λ (h : Holding). definitions_of h.indexes) is;
      cursors = ap (λ (h : Holding). h.cursors) is;
      latest = ap (λ (h : Holding). h.latest) is;
      next = omega (arith, ap (λ (h : Holding). h.next) is);
      moves = moves-kept held.next held.indexes c.held.inside.indexes.items (ap (λ (h : Holding). h.indexes) is);
    }) (ap (λ (h : Holding). h.indexes) is)
    (subst (λ (s : State). Does (CursorRead c.args.index.now c.args.id c.args.count) held.next state c.read_in.new.reply.bytes s) same done)
