use Rattle.std.proofs.Common.{◌≡◌, ◌≤◌, drop}
use Rattle.std.specs.Io.KnownBytes.{Keeps}
use Rattle.std.specs.Str.{str_to_ascii_lowercase}
use Rattle.ft_server.proofs.PieceLaws.{Left}
use Rattle.ft_server.proofs.tx_texts.write_lowered.Given as goal

abbrev pub invariant-loop-byte : goal.invariant-loop-byte
invariant-loop-byte g l =
    let port = g.L.Link in
    record {
      bytes : Left (port.written l.fn.link) (port.written l.link) (str_to_ascii_lowercase l.word) (str_to_ascii_lowercase (drop l.byte-index l.word));
      left : Keeps (port.left l.fn.link) (port.left l.link);
      later : port.write_faults l.fn.link ≤ port.write_faults l.link;
      other : port.read_faults l.link ≡ port.read_faults l.fn.link;
    }
