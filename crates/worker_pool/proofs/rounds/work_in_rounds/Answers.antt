use Rattle.std.proofs.Common.{◌≡◌, false, rules}
use Rattle.worker_pool.proofs.RoundLaws.{goes_on}
use Rattle.worker_pool.proofs.rounds.work_in_rounds.Goals as goal

pub loop-preserved : goal.loop-preserved
loop-preserved g c =
    let worked = c.work_one_round-next in
    let going : g.P.Pace.stopped worked.new.pace ≡ false = search rules in (
      goes_on g.P.Pace c.args.server.now c.args.pass c.args.pace.now c.loop.pass c.loop.pace worked.result.0 worked.new.pace c.loop.invariant.0 worked.ensures.round,
      going,
      worked.ensures.room,
    )
