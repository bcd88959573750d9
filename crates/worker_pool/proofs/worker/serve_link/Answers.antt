use Rattle.std.proofs.Common.{refl}
use Rattle.worker_pool.proofs.worker.serve_link.Goals as goal

pub serve_connection-pass-requires-clause-prompt : goal.serve_connection-pass-requires-clause-prompt
serve_connection-pass-requires-clause-prompt g c = c.requires.prompt c.args.server.now c.args.pass c.args.link c.args.clock.now c.requires.of

pub returns-clause-visit : goal.returns-clause-visit
returns-clause-visit g c =
    let served = c.serve_connection-pass in (
      record { link = c.args.link; back = served.new.link; end = served.result.1 },
      refl,
      record { legal = served.ensures.of; same = served.ensures.same.0; ends = served.ensures.ends },
      c.hand_back.ensures.back,
    )
