use Rattle.std.specs.Prelude.{codes}
use Rattle.std.proofs.Common.{◌≢◌, ◌∙◌, [], arith, length, refl, sym}
use Rattle.cmd_parse.specs.declared.command.Verb.TheVariants.{Ping, Echo, Select, Quit}
use Rattle.ft_base.specs.declared.reply.Reply.TheVariants.{Line}
use Rattle.ft_base.proofs.SpellingLaws.{spelling-Line}
use Rattle.indexed_store.specs.Holding.{state_of}
use Rattle.reply_buffer.proofs.Spellings.{ok_written}
use Rattle.ft_engine.proofs.PlainLaws.{stays-plain}
use Rattle.ft_engine.proofs.ReadLaws.{message-plain, ping-alone, ping-message, ping-wants}
use Rattle.ft_engine.proofs.connection.answer_connection.Goals as goal

pub returns-in-Ping-clause-does : goal.returns-in-Ping-clause-does
returns-in-Ping-clause-does c =
    stays-plain c.args.verb Ping c.args.args.now c.args.held.now.next (state_of c.args.held.now) _ (Line (codes "PONG")) c.in-Ping.is
    (ping-alone c.args.args.now c.args.held.now.next (state_of c.args.held.now) (omega (arith, c.len.ensures, c.if-len-eq0.true))) (c.set_short.ensures.bytes ∙ sym (spelling-Line (codes "PONG")))

pub returns-in-Ping-2-clause-does : goal.returns-in-Ping-2-clause-does
returns-in-Ping-2-clause-does c =
    let some : length c.args.args.now ≢ 0 = λ none. c.if-len-eq0.false (c.len.ensures ∙ none) in
    message-plain c.args.verb Ping c.args.args.now c.args.held.now.next (state_of c.args.held.now) _ c.word.result.now c.in-Ping-2.is
    (ping-wants c.args.args.now some) (ping-message c.args.args.now c.args.held.now.next (state_of c.args.held.now) some) c.word.ensures c.answer_message.ensures.bytes

pub returns-in-Echo-clause-does : goal.returns-in-Echo-clause-does
returns-in-Echo-clause-does c =
    message-plain c.args.verb Echo c.args.args.now c.args.held.now.next (state_of c.args.held.now) _ c.word-in-Echo.result.now c.in-Echo.is
    tt refl c.word-in-Echo.ensures c.answer_message-in-Echo.ensures.bytes

pub returns-in-Select-clause-does : goal.returns-in-Select-clause-does
returns-in-Select-clause-does c =
    stays-plain c.args.verb Select c.args.args.now c.args.held.now.next (state_of c.args.held.now) _ (Line (codes "OK")) c.in-Select.is refl (ok_written [] _ refl c.set_short-in-Select.ensures.bytes)

pub returns-in-Quit-clause-does : goal.returns-in-Quit-clause-does
returns-in-Quit-clause-does c =
    stays-plain c.args.verb Quit c.args.args.now c.args.held.now.next (state_of c.args.held.now) _ (Line (codes "OK")) c.in-Quit.is refl (ok_written [] _ refl c.set_short-in-Quit.ensures.bytes)
