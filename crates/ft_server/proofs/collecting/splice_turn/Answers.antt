use Rattle.std.proofs.Common.{[], ap, append-nil, sym, ◌∙◌}
use Rattle.std.proofs.lemmas.List.{append_cancel_left}
use Rattle.ft_server.proofs.TellingLaws.{again_turn, fits_turn, legal_of, pictured_on, splice_logged, tells_splice}
use Rattle.ft_server.specs.Passes.{last_scan}
use Rattle.ft_server.proofs.collecting.splice_turn.Goals as goal

pub splice-answer-requires-clause-fits : goal.splice-answer-requires-clause-fits
splice-answer-requires-clause-fits g c =
    let turn = c.enter-turn in
    let log = turn.ensures.log in
    let pictured = pictured_on c.args.pass.caller turn.result.caller c.args.pass.seen log.0 turn.result.seen c.args.snapshot.now turn.ensures.same.1 log.1 log.2 c.requires.took in
    fits_turn turn.result.state.engine c.state.result.now.engine turn.result.seen c.args.pass.gate.first (last_scan turn.result.caller turn.result.seen) c.args.snapshot.now c.args.named.now c.args.repair
    turn.ensures.state (ap (λ logged. logged.engine) c.state.ensures.value) pictured c.requires.there c.requires.repairs

pub leave-pass-requires-clause-state : goal.leave-pass-requires-clause-state
leave-pass-requires-clause-state g c =
    let turn = c.enter-turn in
    let log = turn.ensures.log in
    let done = c.splice-answer.ensures in
    let pictured = pictured_on c.args.pass.caller turn.result.caller c.args.pass.seen log.0 turn.result.seen c.args.snapshot.now turn.ensures.same.1 log.1 log.2 c.requires.took in
    tells_splice turn.result.state.engine c.state.result.now.engine c.splice-answer.new.self turn.result.seen c.args.pass.gate.first turn.result.gate.first turn.result.caller (last_scan turn.result.caller turn.result.seen)
    c.args.snapshot.now c.args.named.now c.args.repair c.splice-answer.result turn.ensures.state (ap (λ gate. gate.first) turn.ensures.same.0) (ap (λ logged. logged.engine) c.state.ensures.value) pictured c.requires.there c.requires.repairs
    (record { splices = done.splices; last = done.last; still = done.still; thin = done.thin; indexed = done.indexed; moves = done.moves })

pub returns-clause-of : goal.returns-clause-of
returns-clause-of g c =
    let turn = c.enter-turn in
    let log = turn.ensures.log in
    let done = c.splice-answer.ensures in
    let pictured = pictured_on c.args.pass.caller turn.result.caller c.args.pass.seen log.0 turn.result.seen c.args.snapshot.now turn.ensures.same.1 log.1 log.2 c.requires.took in (
      c.leave-pass.ensures.same.0 ∙ (turn.ensures.same.0 ∙ c.requires.of.0),
      legal_of c.splice-answer.new.self _ c.leave-pass.result.seen turn.result.gate.first c.args.server.now.first
          (tells_splice turn.result.state.engine c.state.result.now.engine c.splice-answer.new.self turn.result.seen c.args.pass.gate.first turn.result.gate.first turn.result.caller (last_scan turn.result.caller turn.result.seen)
          c.args.snapshot.now c.args.named.now c.args.repair c.splice-answer.result turn.ensures.state (ap (λ gate. gate.first) turn.ensures.same.0) (ap (λ logged. logged.engine) c.state.ensures.value) pictured c.requires.there c.requires.repairs
          (record { splices = done.splices; last = done.last; still = done.still; thin = done.thin; indexed = done.indexed; moves = done.moves }))
          c.leave-pass.ensures.log (ap (λ gate. gate.first) (turn.ensures.same.0 ∙ c.requires.of.0)),
    )

pub returns-clause-entry : goal.returns-clause-entry
returns-clause-entry g c =
    let turn = c.enter-turn in
    let log = turn.ensures.log in
    record {
      others = log.0;
      none_own = log.2;
      none = λ alone. append_cancel_left c.args.pass.seen log.0 [] (sym log.1 ∙ (turn.ensures.alone alone ∙ sym (append-nil c.args.pass.seen)));
      seen = splice_logged c.args.pass.caller turn.result.caller c.args.pass.seen log.0 turn.result.seen c.leave-pass.result.seen c.args.named.now.name c.splice-answer.result turn.ensures.same.1 log.1 log.2 c.leave-pass.ensures.log;
    }

pub returns-clause-again : goal.returns-clause-again
returns-clause-again g c =
    let turn = c.enter-turn in
    let log = turn.ensures.log in
    let done = c.splice-answer.ensures in
    again_turn turn.result.state.engine c.state.result.now.engine c.splice-answer.new.self c.args.pass.seen log.0 turn.result.seen c.args.pass.gate.first (last_scan c.args.pass.caller c.args.pass.seen) c.args.snapshot.now c.args.named.now
    c.args.repair c.splice-answer.result turn.ensures.state (ap (λ logged. logged.engine) c.state.ensures.value) log.1 c.requires.took c.requires.there c.requires.repairs
    (record { splices = done.splices; last = done.last; still = done.still; thin = done.thin; indexed = done.indexed; moves = done.moves })
