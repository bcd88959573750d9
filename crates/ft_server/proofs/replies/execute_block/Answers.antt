use Rattle.std.proofs.Common.{subst, sym}
use Rattle.ft_server.specs.Answer.{Writes}
use Rattle.ft_server.specs.Items.{block_text}
use Rattle.ft_server.specs.Talk.{out_of_memory}
use Rattle.ft_server.proofs.AnswerLaws.{block_done, block_told, writes_of}
use Rattle.ft_server.proofs.replies.execute_block.Goals as goal

pub returns-in-Ok-clause-block : goal.returns-in-Ok-clause-block
returns-in-Ok-clause-block g c =
    let done = c.call_block-pass.ensures in
    let sent = c.send_block.ensures in
    let before = g.L.Link.written c.args.link.now in
    let after = g.L.Link.written c.send_block.new.link in
    let faults = g.L.Link.write_faults c.args.link.now in
    let faults' = g.L.Link.write_faults c.send_block.new.link in
    block_done c.args.frames.now c.call_block-pass.new.outs c.args.now c.args.pass c.call_block-pass.result c.goes_on.result before after faults faults' done.count done.entries
    (subst (λ went. Writes went (block_text c.call_block-pass.new.outs) before after faults faults') (sym c.goes_on.ensures)
    (writes_of c.send_block.result _ before after faults faults' sent.sent sent.cut sent.cause))

pub returns-in-Err-clause-block : goal.returns-in-Err-clause-block
returns-in-Err-clause-block g c =
    let said = c.say_out_of_memory.ensures in
    let before = g.L.Link.written c.args.link.now in
    let after = g.L.Link.written c.say_out_of_memory.new.link in
    let faults = g.L.Link.write_faults c.args.link.now in
    let faults' = g.L.Link.write_faults c.say_out_of_memory.new.link in
    block_told c.args.frames.now c.args.now c.args.pass c.goes_on-in-Err.result before after faults faults'
    (subst (λ went. Writes went out_of_memory before after faults faults') (sym c.goes_on-in-Err.ensures)
    (writes_of c.say_out_of_memory.result _ before after faults faults' said.sent said.cut said.cause))
