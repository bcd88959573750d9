use Rattle.std.proofs.Common.{◌≡◌, true, false, rules}
use Rattle.worker_pool.specs.Names.{names_in}
use Rattle.worker_pool.proofs.RoundLaws.{cut_here, one_more}
use Rattle.worker_pool.proofs.rounds.collect_all.Goals as goal

pub returns-then-not-going-clause-cycles : goal.returns-then-not-going-clause-cycles
returns-then-not-going-clause-cycles g c =
    let had = c.collect_one-next in
    let stopped : g.P.Pace.stopped had.new.pace ≡ true = search rules in
    cut_here g.P.Pace c.args.server.now (names_in c.args.reply.now) c.loop-name.names c.in-Some.others c.in-Some.name.now c.args.pass c.args.pace.now c.loop-name.pass c.loop-name.pace had.result.0 had.new.pace
    c.loop-name.invariant c.in-Some.ensures had.ensures.cycle stopped

pub loop-name-preserved : goal.loop-name-preserved
loop-name-preserved g c =
    let had = c.collect_one-next in
    let going : g.P.Pace.stopped had.new.pace ≡ false = search rules in
    one_more g.P.Pace c.args.server.now (names_in c.args.reply.now) c.loop-name.names c.in-Some.others c.in-Some.name.now c.args.pass c.args.pace.now c.loop-name.pass c.loop-name.pace had.result.0 had.new.pace
    c.loop-name.invariant c.in-Some.ensures had.ensures.cycle had.ensures.of had.ensures.same going
