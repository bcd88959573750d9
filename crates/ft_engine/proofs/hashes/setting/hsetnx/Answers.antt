use Rattle.cmd_parse.specs.Read.{Plain}
use Rattle.std.proofs.Common.{true, false}
use Rattle.cmd_parse.specs.declared.command.Verb.TheVariants.{Hset, Hsetnx}
use Rattle.indexed_store.specs.Holding.{state_of}
use Rattle.indexed_store.proofs.PreparingLaws.{prepares-behind, prepares-read}
use Rattle.ft_engine.proofs.PreparedLaws.{kept-there, sets-absent, there-by}
use Rattle.ft_engine.proofs.hashes.setting.hsetnx.Goals as goal

pub returns-then-has_field-clause-prepares : goal.returns-then-has_field-clause-prepares
returns-then-has_field-clause-prepares c =
    prepares-read (Plain Hsetnx c.args.args.now) c.args.held.now c.has_field.new.self _ c.has_field.ensures.stays
    (kept-there c.args.args.now c.args.held.now.next (state_of c.args.held.now) _
    (there-by c.args.held.now.space c.args.args.now c.word.result.now c.word-2.result.now c.has_field.result true c.word.ensures c.word-2.ensures c.has_field.ensures.there c.if-has_field.true) c.set_number.ensures.bytes)

pub returns-clause-prepares : goal.returns-clause-prepares
returns-clause-prepares c =
    sets-absent c.args.args.now c.args.held.now _ _ _
    (there-by c.args.held.now.space c.args.args.now c.word.result.now c.word-2.result.now c.has_field.result false c.word.ensures c.word-2.ensures c.has_field.ensures.there c.if-has_field.false)
    (prepares-behind (Plain Hset c.args.args.now) c.args.held.now c.has_field.new.self _ _ _ c.has_field.ensures.stays c.hset.ensures.prepares)
