use Rattle.std.proofs.Common.{◌≡◌, ◌≤◌, length}
use Rattle.std.specs.Vec.{vec_capacity}
use Rattle.history_core.specs.Events.{AllGood}
use Rattle.history_core.proofs.RunningLaws.{Going}
use Rattle.history_core.proofs.runner.run.Given as goal

abbrev pub invariant-loop-event : goal.invariant-loop-event
invariant-loop-event g l = record {
  count : length l.outcomes.items ≡ l.event-index;
  room : length l.events ≤ vec_capacity l.outcomes;
  few : length l.scans.items ≤ l.event-index;
  space : length l.events ≤ vec_capacity l.scans;
  ready : g.M.Machine.ready l.machine;
  good : AllGood g.M.Machine.good l.scans.items l.machine;
  going : Going g.M.Machine.step g.M.Machine.scans g.M.Machine.splices g.M.Machine.pictures g.M.Machine.name g.M.Machine.clean l.events l.outcomes.items l.fn.machine l.machine l.scans.items;
}
