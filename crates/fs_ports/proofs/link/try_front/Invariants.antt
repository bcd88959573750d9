use Rattle.std.proofs.Common.{◌≡◌, ◌≤◌, ◌-◌, length, take}
use Rattle.std.specs.Io.KnownBytes.{Appends, Keeps}
use Rattle.fs_ports.proofs.link.try_front.Given as goal

abbrev pub invariant-loop-taken : goal.invariant-loop-taken
invariant-loop-taken g l =
    let port = g.L.Link in
    record {
      within : l.taken ≤ length l.piece;
      bytes : Appends (port.written l.fn.link) (port.written l.link) (take l.taken l.piece);
      left : Keeps (port.left l.fn.link) (port.left l.link);
      later : port.write_faults l.fn.link ≤ port.write_faults l.link;
      other : port.read_faults l.link ≡ port.read_faults l.fn.link;
      stalled : port.stalls l.fn.link ≤ port.stalls l.link;
    }

abbrev pub decreases-loop-taken : goal.decreases-loop-taken
decreases-loop-taken g l = length l.piece - l.taken
