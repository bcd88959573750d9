use Rattle.std.specs.Prelude.{◌≡◌, ◌+◌, List, refl}
use Rattle.std.proofs.Common.{◌∙◌, ap, arith, subst, sym}
use Rattle.ft_index.specs.Index.{Index}
use Rattle.indexed_store.specs.Moving.{IndexesMove}
use Rattle.indexed_store.specs.Repairing.{FitsSerial, IndexesThin, SplicesSerial, splice_marker}
use Rattle.indexed_store.proofs.RepairingLaws.{indexes-same}
use Rattle.ft_engine.proofs.EngineLaws.{before-event, indexed}
use Rattle.ft_engine.proofs.EventLaws.{counted-last, counted-lists}
use Rattle.ft_engine.proofs.MovesLaws.{moves-still}
use Rattle.ft_engine.specs.Stands.{IsIndexed, Stands, stands_of}
use Rattle.ft_engine.specs.Stepping.{Moves, counted}
use Rattle.ft_engine.proofs.engine.Engine.splice_list.Goals as goal

pub returns-then-self-ge-LAST_NUMBER-clause-splices : goal.returns-then-self-ge-LAST_NUMBER-clause-splices
returns-then-self-ge-LAST_NUMBER-clause-splices c = record {
  last = λ late. (refl, refl);
  splices = λ early. absurd (omega (arith, early, ap (λ (e : Stands). e.next) c.self.view_is, c.if-self-ge-LAST_NUMBER.true));
}

pub returns-then-self-ge-LAST_NUMBER-clause-indexed : goal.returns-then-self-ge-LAST_NUMBER-clause-indexed
returns-then-self-ge-LAST_NUMBER-clause-indexed c =
    subst IsIndexed c.self.view_is (indexed c.self.inside.held c.self.inside.next c.self.inside.pending c.self.inside.last c.stand.ensures.keys c.stand.ensures.stand c.self.invariant.earlier)

pub returns-then-self-ge-LAST_NUMBER-clause-still : goal.returns-then-self-ge-LAST_NUMBER-clause-still
returns-then-self-ge-LAST_NUMBER-clause-still c =
    subst (λ (e : Stands). e ≡ counted e) c.self.view_is (counted-last (stands_of c.self.inside.held c.self.inside.next c.self.inside.pending c.self.inside.last) (omega (arith, c.if-self-ge-LAST_NUMBER.true)) c.self.invariant.number)

pub returns-then-self-ge-LAST_NUMBER-clause-thin : goal.returns-then-self-ge-LAST_NUMBER-clause-thin
returns-then-self-ge-LAST_NUMBER-clause-thin c = indexes-same c.args.self.now.indexes

pub returns-then-self-ge-LAST_NUMBER-clause-moves : goal.returns-then-self-ge-LAST_NUMBER-clause-moves
returns-then-self-ge-LAST_NUMBER-clause-moves c = moves-still c.args.self.now c.args.self.now (omega arith) refl

pub splice-spliced-requires-clause-earlier : goal.splice-spliced-requires-clause-earlier
splice-spliced-requires-clause-earlier c =
    before-event c.self.inside.held.next c.self.inside.next c.self.inside.pending (ap (λ (e : Stands). e.pending) c.self.view_is ∙ c.requires.free) c.self.invariant.earlier

pub splice-spliced-requires-clause-number : goal.splice-spliced-requires-clause-number
splice-spliced-requires-clause-number c = omega (arith, c.if-self-ge-LAST_NUMBER.false)

pub splice-spliced-requires-clause-fits : goal.splice-spliced-requires-clause-fits
splice-spliced-requires-clause-fits c =
    subst (λ (xs : List Index). FitsSerial c.args.serial xs c.args.name.now c.args.repair.now) (sym (ap (λ (e : Stands). e.indexes) c.self.view_is)) c.requires.fits

pub returns-clause-splices : goal.returns-clause-splices
returns-clause-splices c = record {
  last = λ late. absurd (omega (arith, late, ap (λ (e : Stands). e.next) c.self.view_is, c.if-self-ge-LAST_NUMBER.false));
  splices = λ early.
      subst (λ (xs : List Index). SplicesSerial c.args.serial c.args.name.now c.args.repair.now (splice_marker c.args.self.now.next) c.args.self.now.indexes xs c.splice-spliced.result) (sym (ap (λ (e : Stands). e.indexes) c.end.ensures.ended))
      (subst (λ (e : Stands). SplicesSerial c.args.serial c.args.name.now c.args.repair.now (splice_marker e.next) e.indexes c.splice-spliced.new.self.indexes c.splice-spliced.result) c.self.view_is c.splice-spliced.ensures.splices);
}

pub returns-clause-still : goal.returns-clause-still
returns-clause-still c =
    let inside = c.self.inside in
    let now = c.splice-spliced.new.self in
    let ended = c.end.ensures.ended in
    ended
    ∙ (counted-lists inside.held now now.indexes inside.next (inside.next + 1) inside.pending inside.last c.args.self.now (ap (λ (e : Stands). e.pending) c.self.view_is ∙ c.requires.free) c.self.view_is c.splice-spliced.ensures.still c.splice-spliced.ensures.definitions
    ∙ ap (λ (xs : List Index). record (counted c.args.self.now) { indexes = xs }) (sym (ap (λ (e : Stands). e.indexes) ended)))

pub returns-clause-thin : goal.returns-clause-thin
returns-clause-thin c =
    subst (λ (xs : List Index). IndexesThin c.args.self.now.indexes xs) (sym (ap (λ (e : Stands). e.indexes) c.end.ensures.ended))
    (subst (λ (e : Stands). IndexesThin e.indexes c.splice-spliced.new.self.indexes) c.self.view_is c.splice-spliced.ensures.thin)

pub returns-clause-moves : goal.returns-clause-moves
returns-clause-moves c =
    let inside = c.self.inside in
    subst (λ (e : Stands). Moves e c.end.new.self) c.self.view_is (record {
      next = c.end.ensures.later;
      indexes = subst (λ (xs : List Index). IndexesMove inside.next inside.held.indexes xs) (sym (ap (λ (e : Stands). e.indexes) c.end.ensures.ended)) c.splice-spliced.ensures.moves;
    })
