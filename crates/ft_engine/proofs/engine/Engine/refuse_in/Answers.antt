use Rattle.std.proofs.Common.{List, ap, arith, inr, refl, subst, ℕ, ◌∙◌}
use Rattle.std.proofs.lemmas.Grind.{common_steps}
use Rattle.cmd_parse.specs.Refusals.{refusal}
use Rattle.ft_base.specs.Reply.{spelling}
use Rattle.ft_base.specs.declared.reply.Reply.TheVariants.{Fault}
use Rattle.ft_machine.proofs.Stepping.{refused-at}
use Rattle.ft_machine.specs.Machine.{at_moment}
use Rattle.indexed_store.proofs.MovingLaws.{moves-kept}
use Rattle.indexed_store.specs.Holding.{Holding, state_of}
use Rattle.ft_engine.proofs.EngineLaws.{indexed}
use Rattle.ft_engine.proofs.MovesLaws.{moves-still}
use Rattle.ft_engine.specs.Stands.{IsIndexed, Stands}
use Rattle.ft_engine.specs.Stepping.{Moves}
use Rattle.ft_engine.proofs.engine.Engine.refuse_in.Goals as goal

pub returns-then-self-ge-LAST_NUMBER-clause-answer : goal.returns-then-self-ge-LAST_NUMBER-clause-answer
returns-then-self-ge-LAST_NUMBER-clause-answer c = inr (omega (arith, ap (λ (e : Stands). e.next) c.self.view_is, c.if-self-ge-LAST_NUMBER.true), c.set_fault.ensures.bytes, refl)

pub returns-then-self-ge-LAST_NUMBER-clause-indexed : goal.returns-then-self-ge-LAST_NUMBER-clause-indexed
returns-then-self-ge-LAST_NUMBER-clause-indexed c =
    subst IsIndexed c.self.view_is (indexed c.self.inside.held c.self.inside.next c.self.inside.pending c.self.inside.last c.stand.ensures.keys c.stand.ensures.stand c.self.invariant.earlier)

pub returns-clause-answer : goal.returns-clause-answer
returns-clause-answer c =
    let next = ap (λ (e : Stands). e.next) c.self.view_is in
    refused-at c.args.words c.args.self.now.next c.args.now c.args.fault.now c.args.self.now.state c.end.new.self.state c.set_refusal.new.self.bytes (omega (arith, next, c.if-self-ge-LAST_NUMBER.false)) c.requires.fault
    (c.set_refusal.ensures.bytes ∙ ap (λ (w : List ℕ). spelling (Fault (refusal w c.args.fault.now))) c.word.ensures)
    (ap (λ (e : Stands). e.state) c.end.ensures.ended ∙ (ap state_of c.begin.ensures ∙ ap (λ (e : Stands). at_moment c.args.now e.state) c.self.view_is))

pub set_refusal-requires : goal.set_refusal-requires
set_refusal-requires c = grind (arith, common_steps)

pub returns-then-self-ge-LAST_NUMBER-clause-moves : goal.returns-then-self-ge-LAST_NUMBER-clause-moves
returns-then-self-ge-LAST_NUMBER-clause-moves c = moves-still c.args.self.now c.args.self.now (omega arith) refl

pub returns-clause-moves : goal.returns-clause-moves
returns-clause-moves c =
    let inside = c.self.inside in
    let same = ap (λ (e : Stands). e.indexes) c.end.ensures.ended ∙ ap (λ (h : Holding). h.indexes) c.begin.ensures in
    subst (λ (e : Stands). Moves e c.end.new.self) c.self.view_is (record {
      next = c.end.ensures.later;
      indexes = moves-kept inside.next inside.held.indexes c.end.new.self.indexes same;
    })

pub returns-clause-lists : goal.returns-clause-lists
returns-clause-lists c = ap (λ (e : Stands). e.indexes) c.end.ensures.ended ∙ (ap (λ (h : Holding). h.indexes) c.begin.ensures ∙ ap (λ (e : Stands). e.indexes) c.self.view_is)
