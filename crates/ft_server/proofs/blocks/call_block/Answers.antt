use Rattle.std.proofs.Common.{List, ap, sym, subst, ◌∙◌}
use Rattle.std.specs.List.{All}
use Rattle.ft_base.specs.declared.words.Frame.{Frame}
use Rattle.ft_server.specs.Blocks.{IsCommand}
use Rattle.ft_server.proofs.BlockingLaws.{block_logged, block_told, no_others}
use Rattle.ft_server.proofs.TellingLaws.{legal_of}
use Rattle.ft_server.proofs.blocks.call_block.Goals as goal

pub leave-requires-clause-state : goal.leave-requires-clause-state
leave-requires-clause-state g c =
    let turn = c.enter-turn in
    block_told c.args.now c.args.pass.gate.first turn.result.gate.first turn.result.caller c.as_slice-frames.result.now c.exec_block.new.outs.items c.as_slice-replies.result.now turn.result.seen
    turn.result.state.engine c.state.result.now.engine c.exec_block.new.engine
    (subst (λ (frames : List Frame). All IsCommand frames) (sym c.as_slice-frames.ensures) c.requires.commands) turn.ensures.state
    (ap (λ gate. gate.first) turn.ensures.same.0) (ap (λ logged. logged.engine) c.state.ensures.value) c.as_slice-replies.ensures.value c.exec_block.ensures.steps

pub returns-clause-of : goal.returns-clause-of
returns-clause-of g c =
    let turn = c.enter-turn in (
      c.leave.ensures.same.0 ∙ (turn.ensures.same.0 ∙ c.requires.of.0),
      legal_of c.exec_block.new.engine _ c.leave.result.seen turn.result.gate.first c.args.server.now.first
          (block_told c.args.now c.args.pass.gate.first turn.result.gate.first turn.result.caller c.as_slice-frames.result.now c.exec_block.new.outs.items c.as_slice-replies.result.now turn.result.seen
          turn.result.state.engine c.state.result.now.engine c.exec_block.new.engine
          (subst (λ (frames : List Frame). All IsCommand frames) (sym c.as_slice-frames.ensures) c.requires.commands) turn.ensures.state
          (ap (λ gate. gate.first) turn.ensures.same.0) (ap (λ logged. logged.engine) c.state.ensures.value) c.as_slice-replies.ensures.value c.exec_block.ensures.steps)
          c.leave.ensures.log (ap (λ gate. gate.first) (turn.ensures.same.0 ∙ c.requires.of.0)),
    )

pub returns-clause-entries : goal.returns-clause-entries
returns-clause-entries g c =
    let turn = c.enter-turn in
    let log = turn.ensures.log in
    record {
      others = log.0;
      none_own = log.2;
      none = λ alone. no_others c.args.pass.seen log.0 turn.result.seen log.1 (turn.ensures.alone alone);
      seen = block_logged c.args.now c.args.pass.caller turn.result.caller c.args.frames.now c.as_slice-frames.result.now c.exec_block.new.outs.items c.as_slice-replies.result.now c.args.pass.seen log.0 turn.result.seen c.leave.result.seen
          turn.ensures.same.1 c.as_slice-frames.ensures c.as_slice-replies.ensures.value log.1 c.leave.ensures.log;
    }
