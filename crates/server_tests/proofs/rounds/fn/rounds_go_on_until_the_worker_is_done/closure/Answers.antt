use denote.Param.Send.{sendable}
use Rattle.std.proofs.Crossing.{crosses}
use Rattle.turn_gate.proofs.pass.Pass.TheSendSync as pass
use Rattle.ft_server.proofs.Crossing.{logged_send, server_send, server_sync}
use Rattle.server_tests.proofs.rounds.fn.rounds_go_on_until_the_worker_is_done.closure.Goals as goal

pub start_thread-requires-send-J : goal.start_thread-requires-send-J
start_thread-requires-send-J c κs =
    search (logged_send, server_send, server_sync, pass.the_send, crosses, sendable) depth 60 fits 20000

pub start_thread-requires-send-J-Out : goal.start_thread-requires-send-J-Out
start_thread-requires-send-J-Out c κs =
    search (logged_send, pass.the_send, crosses, sendable) depth 60 fits 20000
