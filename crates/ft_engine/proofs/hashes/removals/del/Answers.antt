use Rattle.std.proofs.Common.{refl, rules}
use Rattle.cmd_parse.specs.Read.{Plain}
use Rattle.cmd_parse.specs.declared.command.Verb.TheVariants.{Del}
use Rattle.indexed_store.specs.Holding.{state_of}
use Rattle.ft_engine.proofs.BehindLaws.{reads-nothing, stays-read}
use Rattle.ft_engine.proofs.PreparedLaws.{prepares-same, prepares-wanting}
use Rattle.ft_engine.proofs.RemovalLaws.{del-prepares, deleted-nothing}
use Rattle.ft_engine.proofs.hashes.removals.del.Goals as goal

pub returns-in_default-clause-prepares : goal.returns-in_default-clause-prepares
returns-in_default-clause-prepares c =
    prepares-wanting (Plain Del c.args.args.now) c.args.held.now _ _ (search rules)
    (stays-read c.args.held.now c.count_found.new.self (reads-nothing c.args.held.now c.count_found.new.self c.count_found.ensures.same)) c.set_no_memory.ensures.bytes

pub returns-then-count-eq0-clause-prepares : goal.returns-then-count-eq0-clause-prepares
returns-then-count-eq0-clause-prepares c =
    prepares-same (Plain Del c.args.args.now) c.args.held.now _ _ c.count_found.ensures.same
    (deleted-nothing c.args.args.now c.args.held.now.next c.in-Ok.count (state_of c.args.held.now) _ c.args.held.now.space refl c.if-count-eq0.true (c.in-Ok.ensures.none c.if-count-eq0.true) c.set_number.ensures.bytes)

pub returns-clause-prepares : goal.returns-clause-prepares
returns-clause-prepares c =
    del-prepares c.args.args.now c.rest.result c.args.held.now c.count_found.new.self _ c.in-Ok.count c.rest.ensures c.count_found.ensures.same c.in-Ok.ensures.count c.if-count-eq0.false c.set_number.ensures.bytes
