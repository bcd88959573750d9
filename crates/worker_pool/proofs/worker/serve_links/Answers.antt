use Rattle.std.proofs.Common.{Ok, Some, ap, arith, subst, sym}
use Rattle.fs_ports.specs.Doors.{AtDoor, Accepts}
use Rattle.fs_ports.specs.declared.link.Failed.{Failed}
use Rattle.worker_pool.proofs.VisitLaws.{gives_none, goes_on}
use Rattle.worker_pool.proofs.worker.serve_links.Goals as goal

pub loop-preserved : goal.loop-preserved
loop-preserved g c =
    let link = g.row.D-Link.Denot in
    let accepts = c.in-Ok.ensures.link in
    let served = c.serve_link-pass in
    let visit = served.ensures.visit.0 in (
      goes_on g.D.Link.Link g.C.Clock c.args.server.now g.D.Door.at c.args.pass c.args.door.now c.args.clock.now Failed
          c.loop.pass served.result c.loop.door c.next_link.new.door served.new.door c.loop.clock served.new.clock
          visit c.loop.invariant.0 (subst (λ (l : link). Accepts {E = Failed} (g.D.Door.at c.loop.door) (g.D.Door.at c.next_link.new.door) (Ok (Some l))) (sym served.ensures.visit.1) accepts) served.ensures.visit.2 served.ensures.visit.3,
      omega (arith, c.loop.invariant.1, c.next_link.ensures.later, ap (λ (d : AtDoor link). d.faults) served.ensures.visit.3),
    )

pub returns-in-Err : goal.returns-in-Err
returns-in-Err g c =
    gives_none g.D.Link.Link g.C.Clock c.args.server.now g.D.Door.at c.args.pass c.args.door.now c.args.clock.now c.in-Err.failed c.loop.pass c.loop.door c.next_link.new.door c.loop.clock
    c.loop.invariant.0 c.loop.invariant.1 c.in-Err.ensures.none
