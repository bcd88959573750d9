use Rattle.std.proofs.Common.{◌≡◌, ◌∙◌, ℕ, List, [], ◌∷◌, rules, ap, sym, subst, length, length-append, arith}
use mathlib.Core.Option.{some}
use lib.ListN.{get_elem?}
use Rattle.history_core.specs.declared.event.Outcome.{Outcome}
use Rattle.history_core.proofs.RunningLaws.{Going, at_index, goes_on, whatever}
use Rattle.history_core.proofs.runner.run.Goals as goal

pub returns-in_err-reply-clause-first : goal.returns-in_err-reply-clause-first
returns-in_err-reply-clause-first g c =
    let i = c.loop-event.invariant in
    whatever c.from_residual-in_err-reply.result (c.loop-event.outcomes.items, omega (arith, i.count, c.loop-event-test.true), i.going.entries, i.going.runs, i.going.leads)

pub loop-event-preserved : goal.loop-event-preserved
loop-event-preserved g c =
    let m = g.M.Machine in
    let i = c.loop-event.invariant in
    let items = c.push_reserved.ensures.items in
    record {
      count = ap length items ∙ omega (arith, length-append c.loop-event.outcomes.items (c.take.result ∷ []), i.count);
      room = search rules;
      few = omega (arith, c.take.ensures.few, i.few);
      space = omega (arith, c.take.ensures.space, i.space);
      ready = c.take.ensures.ready;
      good = c.take.ensures.good;
      going = subst (λ (outcomes : List (Outcome g.row.M-Answer.Denot)). Going m.step m.scans m.splices m.pictures m.name m.clean c.args.events.now outcomes c.args.machine.now c.take.new.machine c.take.new.scans.items) (sym items)
          (goes_on m.step m.scans m.splices m.pictures m.name m.clean c.args.events.now c.loop-event.outcomes.items c.event-item.result c.take.result c.args.machine.now c.loop-event.machine c.take.new.machine c.loop-event.scans.items c.take.new.scans.items
          (subst (λ (n : ℕ). get_elem? c.args.events.now n ≡ some c.event-item.result) (sym i.count) (at_index c.args.events.now c.loop-event.event-index c.event-item.result c.loop-event-test.true c.event-item.is)) i.going c.take.ensures.happens);
    }
