use Rattle.history_core.proofs.EventLaws.{executed_by, scanned_by, seen_by}
use Rattle.history_core.proofs.runner.take.Goals as goal

pub returns-in-Exec-clause-happens : goal.returns-in-Exec-clause-happens
returns-in-Exec-clause-happens g c =
    let m = g.M.Machine in
    executed_by m.step m.scans m.splices m.pictures m.name m.clean c.args.event.now c.in-Exec.caller c.in-Exec.now c.in-Exec.frame c.answer.result c.args.machine.now c.answer.new.machine c.args.scans.now.items
    c.in-Exec.is c.requires.lawful c.answer.ensures.step

pub returns-in-Scan-clause-happens : goal.returns-in-Scan-clause-happens
returns-in-Scan-clause-happens g c =
    let m = g.M.Machine in
    scanned_by m.step m.scans m.splices m.pictures m.name m.clean c.args.event.now c.in-Scan.caller c.in-Scan.index c.scan.result c.args.machine.now c.scan.new.machine c.args.scans.now.items c.scan.new.scans.items
    c.in-Scan.is c.scan.ensures.scanning

pub returns-in-Some-clause-happens : goal.returns-in-Some-clause-happens
returns-in-Some-clause-happens g c =
    let m = g.M.Machine in
    seen_by m.step m.scans m.splices m.pictures m.name m.clean c.args.event.now c.in-Splice.caller c.in-Splice.scan c.in-Splice.list c.in-Some.picture.now c.splice.result c.args.machine.now c.splice.new.machine c.args.scans.now.items c.as_slice.result.now
    c.in-Splice.is c.as_slice.ensures.value c.in-Some.ensures c.splice.ensures.did
