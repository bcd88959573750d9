use denote.Param.Send.{sendable}
use Rattle.std.proofs.Crossing.{crosses}
use Rattle.std.proofs.alloc.Global.TheSendSync as global
use Rattle.turn_gate.proofs.pass.Pass.TheSendSync as pass
use Rattle.ft_server.proofs.Crossing.{logged_send, server_sync}
use Rattle.server_tests.proofs.passes.find_their_own.Goals as goal

pub join-first-requires-send-F : goal.join-first-requires-send-F
join-first-requires-send-F g c κs within =
    search (logged_send, server_sync, pass.the_send, global.the_sync, crosses, sendable) depth 60 fits 20000
