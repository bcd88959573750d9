use denote.Param.Send.{IsSync, sendable}
use Rattle.std.proofs.Crossing.{crosses}
use Rattle.std.proofs.alloc.Global.TheSendSync as global
use Rattle.turn_gate.proofs.pass.Pass.TheSendSync as pass
use Rattle.ft_server.proofs.Crossing.{logged_send, server_sync}
use Rattle.server_tests.specs.contracts.cycles.Shared as shared
use Rattle.server_tests.proofs.cycles.go_side_by_side.Goals as goal

shared_sync : IsSync shared.the_row
shared_sync = search (crosses, sendable) depth 60 fits 20000

pub join-first-requires-send-F : goal.join-first-requires-send-F
join-first-requires-send-F g c κs within =
    search (logged_send, server_sync, pass.the_send, global.the_sync, shared_sync, crosses, sendable) depth 60 fits 20000
