use Rattle.std.proofs.Common.{arith}
use Rattle.cmd_parse.proofs.PairLaws.{goes-on, known_where_not_added, none-repeats, repeats-here, unknown_where_added}
use Rattle.cmd_parse.proofs.params.first_repeat.Goals as goal

pub returns-then-not-branch-clause-first : goal.returns-then-not-branch-clause-first
returns-then-not-branch-clause-first c =
    repeats-here c.args.words.now c.args.from c.loop-place.place c.loop-place.names c.word.result.now c.loop-place.invariant (omega arith) c.word.ensures
    (known_where_not_added _ _ c.in_ok-insert.ensures.added c.if-not-branch.true)

pub loop-place-preserved : goal.loop-place-preserved
loop-place-preserved c =
    goes-on c.args.words.now c.args.from c.loop-place.place c.loop-place.names c.insert.new.self c.word.result c.loop-place.invariant (omega arith) c.word.ensures
    (unknown_where_added _ _ c.in_ok-insert.ensures.added c.if-not-branch.false) c.in_ok-insert.ensures.updates

pub returns-clause-first : goal.returns-clause-first
returns-clause-first c = none-repeats c.args.words.now c.args.from c.loop-place.place c.loop-place.names c.loop-place.invariant (omega arith)
