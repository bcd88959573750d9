use Rattle.std.specs.Prelude.{◌≤◌, List}
use Rattle.std.proofs.Common.{◌∙◌, ap, arith, subst, sym}
use Rattle.std.proofs.lemmas.Result.{IfOk-weaker}
use Rattle.ft_index.specs.Index.{Index}
use Rattle.ft_machine.specs.Step.{last_number, next_number}
use Rattle.indexed_store.specs.Moving.{IndexesMove}
use Rattle.indexed_store.specs.Parting.{ScansPart}
use Rattle.indexed_store.specs.Repairing.{IndexesThin}
use Rattle.ft_engine.proofs.EngineLaws.{before-event}
use Rattle.ft_engine.proofs.EventLaws.{counted-lists, last-still}
use Rattle.ft_engine.specs.Stands.{Stands}
use Rattle.ft_engine.specs.Stepping.{Moves, counted}
use Rattle.ft_engine.proofs.engine.Engine.scan_next.Goals as goal

pub scan_next-taken-requires-clause-earlier : goal.scan_next-taken-requires-clause-earlier
scan_next-taken-requires-clause-earlier c =
    before-event c.self.inside.held.next c.self.inside.next c.self.inside.pending (ap (λ (e : Stands). e.pending) c.self.view_is ∙ c.requires.free) c.self.invariant.earlier

pub returns-clause-taken : goal.returns-clause-taken
returns-clause-taken c =
    IfOk-weaker c.scan_next-taken.result _ _
    (λ taken scans. subst (λ (xs : List Index). ScansPart c.args.name.now xs c.args.self.now.next taken) (sym (ap (λ (e : Stands). e.indexes) c.end.ensures.ended))
    (subst (λ (e : Stands). ScansPart c.args.name.now c.scan_next-taken.new.self.indexes e.next taken) c.self.view_is scans))
    c.scan_next-taken.ensures.taken

pub returns-clause-still : goal.returns-clause-still
returns-clause-still c =
    let inside = c.self.inside in
    let now = c.scan_next-taken.new.self in
    let ended = c.end.ensures.ended in
    ended
    ∙ (counted-lists inside.held now now.indexes inside.next (next_number inside.next) inside.pending inside.last c.args.self.now (ap (λ (e : Stands). e.pending) c.self.view_is ∙ c.requires.free) c.self.view_is
    c.scan_next-taken.ensures.still c.scan_next-taken.ensures.definitions
    ∙ ap (λ (xs : List Index). record (counted c.args.self.now) { indexes = xs }) (sym (ap (λ (e : Stands). e.indexes) ended)))

pub returns-clause-last : goal.returns-clause-last
returns-clause-last c late =
    let inside = c.self.inside in
    let now = c.scan_next-taken.new.self in
    let ended = c.end.ensures.ended in
    let lists = ap (λ (e : Stands). e.indexes) ended in
    let next = ap (λ (e : Stands). e.next) c.self.view_is in
    let whole : last_number ≤ inside.next = omega (arith, late, next) in
    let most : c.args.self.now.next ≤ last_number = omega (arith, next, c.self.invariant.number) in
    last-still c.args.self.now c.end.new.self most
    (ended
    ∙ (counted-lists inside.held now now.indexes inside.next (next_number inside.next) inside.pending inside.last c.args.self.now (ap (λ (e : Stands). e.pending) c.self.view_is ∙ c.requires.free) c.self.view_is
    c.scan_next-taken.ensures.still c.scan_next-taken.ensures.definitions
    ∙ ap (λ (xs : List Index). record (counted c.args.self.now) { indexes = xs }) (sym lists)))
    (lists ∙ (c.scan_next-taken.ensures.last whole ∙ ap (λ (e : Stands). e.indexes) c.self.view_is)) late

pub returns-clause-thin : goal.returns-clause-thin
returns-clause-thin c =
    subst (λ (xs : List Index). IndexesThin c.args.self.now.indexes xs) (sym (ap (λ (e : Stands). e.indexes) c.end.ensures.ended))
    (subst (λ (e : Stands). IndexesThin e.indexes c.scan_next-taken.new.self.indexes) c.self.view_is c.scan_next-taken.ensures.thin)

pub returns-clause-moves : goal.returns-clause-moves
returns-clause-moves c =
    let inside = c.self.inside in
    subst (λ (e : Stands). Moves e c.end.new.self) c.self.view_is (record {
      next = c.end.ensures.later;
      indexes = subst (λ (xs : List Index). IndexesMove inside.next inside.held.indexes xs) (sym (ap (λ (e : Stands). e.indexes) c.end.ensures.ended)) c.scan_next-taken.ensures.moves;
    })
