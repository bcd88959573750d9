use Rattle.std.proofs.Common.{◌∙◌}
use Rattle.worker_pool.specs.Works.{IsDone}
use Rattle.worker_pool.proofs.EndingLaws.{fits_all, handed_all}
use Rattle.worker_pool.proofs.serving.run_all.Goals as goal

pub returns-clause-handed : goal.returns-clause-handed
returns-clause-handed g c =
    let done = IsDone g.D.Door.at g.D.Link.Link g.C.Clock g.P.Pace in
    let started = c.start_all-running in
    let jobs = started.ensures.jobs in
    let waited = c.wait_all-works in
    rw c.from_vec.ensures (handed_all g.S.Spawner.job g.S.Spawner.sound done c.args.room.workers.items c.args.room.collector started.result.0.items started.result.1 waited.result.items c.wait_last-works.result.items jobs.0 jobs.1 jobs.2 waited.ensures.done waited.ensures.count
    c.start_last-last.result _ c.start_last-last.ensures.started c.wait_last-works.ensures.done)

pub returns-clause-fits : goal.returns-clause-fits
returns-clause-fits g c =
    let done = IsDone g.D.Door.at g.D.Link.Link g.C.Clock g.P.Pace in
    let started = c.start_all-running in
    let jobs = started.ensures.jobs in
    let waited = c.wait_all-works in
    let exit = rw c.as_slice.ensures.value at c.exit_at.ensures in
    rw c.from_vec.ensures (fits_all g.S.Spawner.job g.S.Spawner.sound done c.args.room.workers.items c.args.room.collector started.result.0.items started.result.1 waited.result.items c.wait_last-works.result.items jobs.0 jobs.1 jobs.2 waited.ensures.done waited.ensures.count
    c.start_last-last.result c.is_refused-refused.result c.exit_at.result _ _ _ _ c.start_last-last.ensures.started c.wait_last-works.ensures.done c.is_refused-refused.ensures exit
    started.ensures.refused started.ensures.later c.start_last-last.ensures.later (c.wait_last-works.ensures.faults ∙ waited.ensures.faults))
