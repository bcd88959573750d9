use Rattle.std.proofs.Common.{ap, ◌∙◌}
use Rattle.ft_server.proofs.TellingLaws.{legal_of, tells_scan}
use Rattle.ft_server.proofs.collecting.scan_turn.Goals as goal

pub leave-pass-requires-clause-state : goal.leave-pass-requires-clause-state
leave-pass-requires-clause-state g c =
    let turn = c.enter-turn in
    let done = c.scan_next-taken.ensures in
    tells_scan turn.result.state.engine c.state.result.now.engine c.scan_next-taken.new.self turn.result.seen c.args.pass.gate.first turn.result.gate.first turn.result.caller c.args.index.now c.scan_next-taken.result
    turn.ensures.state (ap (λ gate. gate.first) turn.ensures.same.0) (ap (λ logged. logged.engine) c.state.ensures.value)
    (record { taken = done.taken; next = done.next; still = done.still; thin = done.thin; indexed = done.indexed; moves = done.moves })

pub returns-clause-of : goal.returns-clause-of
returns-clause-of g c =
    let turn = c.enter-turn in
    let done = c.scan_next-taken.ensures in (
      c.leave-pass.ensures.same.0 ∙ (turn.ensures.same.0 ∙ c.requires.of.0),
      legal_of c.scan_next-taken.new.self _ c.leave-pass.result.seen turn.result.gate.first c.args.server.now.first
          (tells_scan turn.result.state.engine c.state.result.now.engine c.scan_next-taken.new.self turn.result.seen c.args.pass.gate.first turn.result.gate.first turn.result.caller c.args.index.now c.scan_next-taken.result
          turn.ensures.state (ap (λ gate. gate.first) turn.ensures.same.0) (ap (λ logged. logged.engine) c.state.ensures.value)
          (record { taken = done.taken; next = done.next; still = done.still; thin = done.thin; indexed = done.indexed; moves = done.moves }))
          c.leave-pass.ensures.log (ap (λ gate. gate.first) (turn.ensures.same.0 ∙ c.requires.of.0)),
    )
