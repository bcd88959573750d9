use Rattle.std.proofs.Common.{◌≡◌, ◌<◌, ◌≤◌, ◌+◌, ◌-◌, ◌*◌, ◌^◌, length, vec_capacity}
use Rattle.std.specs.List.{All}
use Rattle.history_core.specs.Running.{AreLawful}
use Rattle.resp_wire.specs.Decoding.{fed}
use Rattle.ft_server.specs.Passes.{IsOf}
use Rattle.ft_server.specs.Serving.{Going}
use Rattle.ft_server.specs.Session.{told}
use Rattle.ft_server.proofs.connection.serve.Given as goal

abbrev pub invariant-serving : goal.invariant-serving
invariant-serving g l = record {
  of : IsOf l.server l.pass;
  going : Going l.buffers.decoder l.buffers.session l.fn.pass l.pass (told g.L.Link g.C.Clock l.fn.link l.fn.clock) (told g.L.Link g.C.Clock l.link l.clock);
  counted : fed l.buffers.decoder ≡ l.total;
  few : l.total ≤ 2 ^ 40;
  room : 64 ≤ vec_capacity l.buffers.reply;
  buffer : 0 < length l.buffers.input.items;
  queue : All AreLawful l.buffers.session.queue;
}

-- what may still be read counts twice, since it is read first and taken then
abbrev pub decreases-serving : goal.decreases-serving
decreases-serving g l = 2 * (2 ^ 40 - l.total) + length l.buffers.decoder.left
