use Rattle.std.proofs.Common.{◌≤◌, length, vec_capacity}
use Rattle.resp_wire.specs.Stream.{stream_of}
use Rattle.ft_server.specs.Passes.{IsOf}
use Rattle.ft_server.specs.Playing.{Playing}
use Rattle.ft_server.proofs.load.play.Given as goal

abbrev pub invariant-playing : goal.invariant-playing
invariant-playing g l = record {
  of : IsOf l.server l.pass;
  room : 64 ≤ vec_capacity l.reply;
  playing : Playing (stream_of l.fn.decoder.left).commands l.decoder.left l.fn.pass l.pass l.tally;
}

abbrev pub decreases-playing : goal.decreases-playing
decreases-playing g l = length l.decoder.left
