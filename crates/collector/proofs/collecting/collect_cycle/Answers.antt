use Rattle.std.proofs.Common.{Ok, ap, refl, ◌∙◌, subst}
use Rattle.ft_engine.specs.Kept.{scanned}
use Rattle.ft_server.specs.Passes.{AddsEntry}
use Rattle.history_core.specs.Entries.{NoIndex, NoMemory, Scan}
use Rattle.collector.specs.declared.cycle.Cycle.TheVariants as cycles
use Rattle.collector.proofs.CycleLaws.{ends-at-once, ends-later, took-new}
use Rattle.collector.proofs.collecting.collect_cycle.Goals as goal

pub returns-in_default : goal.returns-in_default
returns-in_default g c = let s = c.scan_turn-pass in record {
  cycled =
      ends-at-once c.args.server.now c.args.pass s.result.0 c.args.index.now NoMemory (g.P.Pace.asked c.args.pace.now) (g.P.Pace.stopped c.args.pace.now) cycles.NoMemory s.ensures.of s.ensures.same s.ensures.turns
      (subst (λ r. AddsEntry c.args.pass s.result.0 (Scan c.args.pass.caller c.args.index.now (scanned r))) c.in_default.is s.ensures.entry) c.requires.going refl (refl, refl);
}

pub returns-in_default-found : goal.returns-in_default-found
returns-in_default-found g c = let s = c.scan_turn-pass in record {
  cycled =
      ends-at-once c.args.server.now c.args.pass s.result.0 c.args.index.now NoIndex (g.P.Pace.asked c.args.pace.now) (g.P.Pace.stopped c.args.pace.now) cycles.NoIndex s.ensures.of s.ensures.same s.ensures.turns
      (subst (λ r. AddsEntry c.args.pass s.result.0 (Scan c.args.pass.caller c.args.index.now (scanned r))) (c.in-Ok.is ∙ ap Ok c.in_default-found.is) s.ensures.entry) c.requires.going refl (refl, refl);
}

pub collect_lists-requires-clause-took : goal.collect_lists-requires-clause-took
collect_lists-requires-clause-took g c κs within = let s = c.scan_turn-pass in
    took-new c.args.pass s.result.0 c.args.index.now c.in-Some.snapshot s.ensures.same.0
    (subst (λ r. AddsEntry c.args.pass s.result.0 (Scan c.args.pass.caller c.args.index.now (scanned r))) (c.in-Ok.is ∙ ap Ok c.in-Some.is) s.ensures.entry)

pub returns : goal.returns
returns g c = let s = c.scan_turn-pass in record {
  cycled =
      ends-later c.args.server.now c.args.pass s.result.0 c.collect_lists.result.0 c.args.index.now c.in-Some.snapshot (g.P.Pace.asked c.args.pace.now) (g.P.Pace.asked c.collect_lists.new.pace) (g.P.Pace.stopped c.collect_lists.new.pace) c.collect_lists.result.1
      s.ensures.same s.ensures.turns
      (subst (λ r. AddsEntry c.args.pass s.result.0 (Scan c.args.pass.caller c.args.index.now (scanned r))) (c.in-Ok.is ∙ ap Ok c.in-Some.is) s.ensures.entry) c.collect_lists.ensures;
}
