use Rattle.std.proofs.Common.{ℕ, List, [], slice_index_or, ap, subst, sym, ◌∙◌}
use Rattle.ft_server.specs.Answer.{Writes}
use Rattle.ft_server.specs.Talk.{out_of_memory, said_text}
use Rattle.ft_server.proofs.AnswerLaws.{answered_block, answered_one, answered_said, answered_unkept, block_lawful, writes_of}
use Rattle.ft_server.proofs.replies.answer.Goals as goal

pub execute_block-requires-clause-commands : goal.execute_block-requires-clause-commands
execute_block-requires-clause-commands g c =
    block_lawful c.args.decoder.now.words c.args.session.now c.take_next.new.session c.in-Block.frames c.in-Block.ensures.table c.requires.queue

pub returns-in-One-clause-answer : goal.returns-in-One-clause-answer
returns-in-One-clause-answer g c =
    let done = c.execute.ensures in
    answered_one c.args.decoder.now.words c.args.session.now c.take_next.new.session c.args.pass c.execute.result.0 _ _ c.execute.result.1 _ _ _ _
    c.now-now.result c.execute.new.out.items c.in-One.ensures.table done.entry c.now-now.ensures done.sent

pub returns-in-Say-clause-answer : goal.returns-in-Say-clause-answer
returns-in-Say-clause-answer g c =
    let said = c.say.ensures in
    let before = g.L.Link.written c.args.link.now in
    let after = g.L.Link.written c.say.new.link in
    let faults = g.L.Link.write_faults c.args.link.now in
    let faults' = g.L.Link.write_faults c.say.new.link in
    let told : Writes c.goes_on.result (said_text c.word.result.now c.in-Say.text) before after faults faults' =
    subst (λ went. Writes went (said_text c.word.result.now c.in-Say.text) before after faults faults') (sym c.goes_on.ensures)
    (writes_of c.say.result _ before after faults faults' said.sent said.cut said.cause) in
    answered_said c.args.decoder.now.words c.args.session.now c.take_next.new.session c.args.pass _ _ c.goes_on.result before after faults faults'
    c.now-now.result c.in-Say.text c.in-Say.ensures.table c.now-now.ensures
    (subst (λ (n : List ℕ). Writes c.goes_on.result (said_text n c.in-Say.text) before after faults faults')
    (c.word.ensures ∙ ap (λ (ws : List (List ℕ)). slice_index_or ws 0 []) c.words-words.ensures) told)

pub returns-in-NoMemory-clause-answer : goal.returns-in-NoMemory-clause-answer
returns-in-NoMemory-clause-answer g c =
    let said = c.say_out_of_memory.ensures in
    let before = g.L.Link.written c.args.link.now in
    let after = g.L.Link.written c.say_out_of_memory.new.link in
    let faults = g.L.Link.write_faults c.args.link.now in
    let faults' = g.L.Link.write_faults c.say_out_of_memory.new.link in
    answered_unkept c.args.decoder.now.words c.args.session.now c.take_next.new.session c.args.pass _ _ c.goes_on-in-NoMemory.result before after faults faults'
    c.now-now.result c.in-NoMemory.ensures.table c.now-now.ensures
    (subst (λ went. Writes went out_of_memory before after faults faults') (sym c.goes_on-in-NoMemory.ensures)
    (writes_of c.say_out_of_memory.result _ before after faults faults' said.sent said.cut said.cause))

pub returns-in-Block-clause-answer : goal.returns-in-Block-clause-answer
returns-in-Block-clause-answer g c =
    answered_block c.args.decoder.now.words c.args.session.now c.take_next.new.session c.args.pass c.execute_block.result.0 _ _ c.execute_block.result.1 _ _ _ _
    c.now-now.result c.in-Block.frames c.in-Block.ensures.table c.now-now.ensures c.execute_block.ensures.block
