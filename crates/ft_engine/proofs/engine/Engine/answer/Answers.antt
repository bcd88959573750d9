use Rattle.std.proofs.Common.{List, ap, arith, inl, inr, refl, true, subst, sym, ◌∙◌}
use Rattle.indexed_store.specs.declared.change.Change.{Change}
use Rattle.ft_engine.specs.Preparing.{EntersAsSaid}
use Rattle.cmd_parse.specs.Reading.{command_of}
use Rattle.ft_base.specs.Docs.{Doc}
use Rattle.indexed_store.specs.Holding.{state_of}
use Rattle.indexed_store.specs.Standing.{AreWritten}
use Rattle.ft_machine.specs.Step.{last_event}
use Rattle.ft_engine.proofs.CollectionLaws.{collects-refused}
use Rattle.ft_engine.proofs.EngineLaws.{before-event}
use Rattle.ft_engine.proofs.MovesLaws.{moves-still}
use Rattle.ft_engine.proofs.WritingLaws.{writes-something}
use Rattle.ft_engine.specs.Stands.{Stands, stands_of}
use Rattle.ft_engine.specs.Stepping.{Moves}
use Rattle.ft_engine.proofs.engine.Engine.answer.Goals as goal

pub returns-clause-writes : goal.returns-clause-writes
returns-clause-writes c some =
    let change = c.begin_command in
    let documents : AreWritten change.new.held.space c.self.inside.next =
    subst (λ (docs : List Doc). AreWritten docs c.self.inside.next) (sym change.ensures.prepares.stays.space) change.ensures.documents in
    writes-something change.result c.self.inside.next change.new.held.waits change.new.held.opens change.new.held.indexes (state_of change.new.held) documents refl change.ensures.prepares.ready some

pub begin_command-requires-clause-earlier : goal.begin_command-requires-clause-earlier
begin_command-requires-clause-earlier c =
    before-event c.self.inside.held.next c.self.inside.next c.self.inside.pending (ap (λ (e : Stands). e.pending) c.self.view_is ∙ c.requires.free) c.self.invariant.earlier

pub returns-clause-moves : goal.returns-clause-moves
returns-clause-moves c =
    let inside = c.self.inside in
    subst (λ (e : Stands). Moves e (stands_of c.begin_command.new.held inside.next true inside.last)) c.self.view_is (record {
      next = omega arith;
      indexes = c.begin_command.ensures.prepares.stays.moves;
    })

pub returns-then-self-ge-LAST_NUMBER-clause-collects : goal.returns-then-self-ge-LAST_NUMBER-clause-collects
returns-then-self-ge-LAST_NUMBER-clause-collects c = collects-refused (command_of c.args.command) c.answer_last.new.self.indexes c.answer_last.new.reply.bytes (last_event, c.answer_last.ensures.text)

pub returns-then-self-ge-LAST_NUMBER-clause-moves : goal.returns-then-self-ge-LAST_NUMBER-clause-moves
returns-then-self-ge-LAST_NUMBER-clause-moves c =
    let is = c.answer_last.ensures.pending in
    moves-still c.args.self.now c.answer_last.new.self (omega (arith, ap (λ (e : Stands). e.next) is)) (ap (λ (e : Stands). e.indexes) is)

pub returns-then-self-ge-LAST_NUMBER-clause-still : goal.returns-then-self-ge-LAST_NUMBER-clause-still
returns-then-self-ge-LAST_NUMBER-clause-still c =
    subst (λ (change : Change). EntersAsSaid c.args.command change c.args.self.now c.answer_last.new.reply.bytes c.answer_last.new.self) (sym c.answer_last.ensures.nothing)
    (inr (inl (ap (λ (e : Stands). e.indexes) c.answer_last.ensures.pending)))

pub returns-clause-still : goal.returns-clause-still
returns-clause-still c =
    subst (λ (e : Stands). EntersAsSaid c.args.command c.begin_command.result e c.begin_command.new.reply.bytes (stands_of c.begin_command.new.held c.self.inside.next true c.self.inside.last)) c.self.view_is
    c.begin_command.ensures.prepares.enters

pub returns-clause-indexed : goal.returns-clause-indexed
returns-clause-indexed c = c.begin_command.ensures.indexed c.self.inside.last
