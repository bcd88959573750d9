use Rattle.std.specs.Prelude.{pos}
use Rattle.cmd_parse.specs.Read.{Plain}
use Rattle.cmd_parse.specs.declared.command.Verb.TheVariants.{Hset}
use Rattle.ft_base.specs.declared.reply.Reply.TheVariants.{Number}
use Rattle.indexed_store.specs.Holding.{state_of}
use Rattle.ft_engine.proofs.PreparedLaws.{hset-gives, prepares-wanting, prepares-write}
use Rattle.ft_engine.proofs.hashes.setting.hset.Goals as goal

pub returns-in-Ok-clause-prepares : goal.returns-in-Ok-clause-prepares
returns-in-Ok-clause-prepares c =
    prepares-write (Plain Hset c.args.args.now) c.args.held.now _ _ c.word.result.now _ c.in-Ok.put (Number (pos c.in-Ok.fresh))
    (hset-gives c.args.args.now c.args.held.now.next c.in-Ok.fresh (state_of c.args.held.now) c.word.result.now c.rest-pairs.result c.word.ensures c.rest-pairs.ensures c.in-Ok.ensures.fresh)
    c.in-Ok.ensures.waits c.set_fields.ensures.stays c.set_number.ensures.bytes

pub returns-in-Err-clause-prepares : goal.returns-in-Err-clause-prepares
returns-in-Err-clause-prepares c = prepares-wanting (Plain Hset c.args.args.now) c.args.held.now _ _ tt c.set_fields.ensures.stays c.set_no_memory.ensures.bytes
