use Rattle.std.specs.Arc.{arc_value}
use Rattle.worker_pool.proofs.FillingLaws.{jobs_made}
use Rattle.worker_pool.proofs.jobs.take_room.Goals as goal

pub returns-clause-jobs : goal.returns-clause-jobs
returns-clause-jobs g c =
    let crew = c.in_ok-crew in
    let made = c.in_ok-made in
    jobs_made c.args.doors.items c.args.clocks.items c.args.pace (λ room. room.workers.items) (λ room. room.collector) c.with_vectors.result
    (record {
      gate = arc_value crew.crew.server;
      workers = made.made.workers.items;
      collector = made.made.collector;
      first = crew.ensures.first;
      are_workers = rw made.ensures.workers crew.ensures.workers;
      is_collector = made.ensures.collector;
    })
    c.with_vectors.ensures.jobs
