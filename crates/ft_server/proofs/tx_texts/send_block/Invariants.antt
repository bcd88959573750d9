use Rattle.std.proofs.Common.{◌≡◌, ◌≤◌, drop}
use Rattle.std.specs.Io.KnownBytes.{Keeps}
use Rattle.ft_base.specs.Reply.{joined}
use Rattle.ft_server.specs.Items.{block_text}
use Rattle.ft_server.proofs.PieceLaws.{Left}
use Rattle.ft_server.proofs.tx_texts.send_block.Given as goal

abbrev pub invariant-loop-at : goal.invariant-loop-at
invariant-loop-at g l =
    let port = g.L.Link in
    record {
      bytes : Left (port.written l.fn.link) (port.written l.link) (block_text l.outs) (joined (drop l.at l.outs));
      left : Keeps (port.left l.fn.link) (port.left l.link);
      later : port.write_faults l.fn.link ≤ port.write_faults l.link;
      other : port.read_faults l.link ≡ port.read_faults l.fn.link;
    }
