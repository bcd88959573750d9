use Rattle.std.proofs.Common.{ap, ◌∙◌}
use Rattle.ft_server.proofs.TellingLaws.{tells_more, legal_of}
use Rattle.ft_server.proofs.calls.call.Goals as goal

pub leave-requires-clause-state : goal.leave-requires-clause-state
leave-requires-clause-state g c =
    let turn = c.enter-turn in
    let done = c.exec.ensures in
    tells_more turn.result.state.engine c.state.result.now.engine c.exec.new.self turn.result.seen c.args.pass.gate.first turn.result.gate.first turn.result.caller c.args.now c.args.words c.rest.result c.as_slice-reply.result.now c.exec.new.out.items
    turn.ensures.state (ap (λ gate. gate.first) turn.ensures.same.0) (ap (λ logged. logged.engine) c.state.ensures.value) c.rest.ensures c.as_slice-reply.ensures.value c.requires.some c.requires.limits
    done.answer done.clean done.next done.free done.indexed done.moves

pub returns-clause-of : goal.returns-clause-of
returns-clause-of g c =
    let turn = c.enter-turn in
    let done = c.exec.ensures in (
      c.leave.ensures.same.0 ∙ (turn.ensures.same.0 ∙ c.requires.of.0),
      legal_of c.exec.new.self _ c.leave.result.seen turn.result.gate.first c.args.server.now.first
          (tells_more turn.result.state.engine c.state.result.now.engine c.exec.new.self turn.result.seen c.args.pass.gate.first turn.result.gate.first turn.result.caller c.args.now c.args.words c.rest.result c.as_slice-reply.result.now c.exec.new.out.items
          turn.ensures.state (ap (λ gate. gate.first) turn.ensures.same.0) (ap (λ logged. logged.engine) c.state.ensures.value) c.rest.ensures c.as_slice-reply.ensures.value c.requires.some c.requires.limits
          done.answer done.clean done.next done.free done.indexed done.moves)
          c.leave.ensures.log (ap (λ gate. gate.first) (turn.ensures.same.0 ∙ c.requires.of.0)),
    )
