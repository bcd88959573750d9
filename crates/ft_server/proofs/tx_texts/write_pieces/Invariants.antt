use Rattle.std.proofs.Common.{◌≡◌, ◌≤◌, drop, map}
use Rattle.std.specs.Io.KnownBytes.{Keeps}
use Rattle.ft_base.specs.Reply.{joined}
use Rattle.ft_server.proofs.PieceLaws.{Left}
use Rattle.ft_server.proofs.tx_texts.write_pieces.Given as goal

abbrev pub invariant-loop-piece : goal.invariant-loop-piece
invariant-loop-piece g l =
    let port = g.L.Link in
    record {
      bytes : Left (port.written l.fn.link) (port.written l.link) (joined (map (λ piece. piece.now) l.pieces)) (joined (map (λ piece. piece.now) (drop l.piece-index l.pieces)));
      left : Keeps (port.left l.fn.link) (port.left l.link);
      later : port.write_faults l.fn.link ≤ port.write_faults l.link;
      other : port.read_faults l.link ≡ port.read_faults l.fn.link;
    }
