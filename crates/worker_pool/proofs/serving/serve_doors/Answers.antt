use Rattle.std.proofs.Common.{sym}
use Rattle.worker_pool.specs.Works.{IsDone}
use Rattle.worker_pool.proofs.EndingLaws.{all_ready, collector_ready, exits_at}
use Rattle.worker_pool.proofs.serving.serve_doors.Goals as goal

pub run_all-requires-clause-workers : goal.run_all-requires-clause-workers
run_all-requires-clause-workers g c κs within =
    let made = c.in-Ok.ensures.jobs in
    rw made.1 (all_ready g.D.Door.at g.D.Link.Link g.C.Clock g.P.Pace c.requires.prompt made.0.gate c.args.doors.items c.args.clocks.items made.0.workers made.0.are_workers c.requires.idle)

pub run_all-requires-clause-collector : goal.run_all-requires-clause-collector
run_all-requires-clause-collector g c κs within =
    let made = c.in-Ok.ensures.jobs in
    rw made.2 (collector_ready g.D.Door.at g.D.Link.Link g.C.Clock g.P.Pace made.0.gate c.args.pace made.0.collector made.0.is_collector c.requires.going)

pub returns-in-Ok-clause-exits : goal.returns-in-Ok-clause-exits
returns-in-Ok-clause-exits g c =
    let done = IsDone g.D.Door.at g.D.Link.Link g.C.Clock g.P.Pace in
    let made = c.in-Ok.ensures.jobs in
    exits_at done c.args.doors.items c.args.clocks.items c.args.pace c.run_all.result.1 _ _ c.run_all.result.0 made.0
    (rw (sym made.1, sym made.2) c.run_all.ensures.handed) (rw (sym c.in-Ok.ensures.count) c.run_all.ensures.fits)
