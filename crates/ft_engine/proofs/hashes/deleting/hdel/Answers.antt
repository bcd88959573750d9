use Rattle.cmd_parse.specs.Read.{Plain}
use Rattle.cmd_parse.specs.declared.command.Verb.TheVariants.{Hdel}
use Rattle.ft_engine.proofs.PreparedLaws.{hdel-prepares, prepares-wanting}
use Rattle.ft_engine.proofs.hashes.deleting.hdel.Goals as goal

pub returns-in-Ok-clause-prepares : goal.returns-in-Ok-clause-prepares
returns-in-Ok-clause-prepares c =
    hdel-prepares c.args.args.now c.args.held.now _ _ c.word.result.now c.rest-fields.result c.in-Ok.change c.in-Ok.gone c.word.ensures c.rest-fields.ensures
    c.in-Ok.ensures.change c.take_fields.ensures.stays c.set_number.ensures.bytes

pub returns-in-Err-clause-prepares : goal.returns-in-Err-clause-prepares
returns-in-Err-clause-prepares c = prepares-wanting (Plain Hdel c.args.args.now) c.args.held.now _ _ tt c.take_fields.ensures.stays c.set_no_memory.ensures.bytes
