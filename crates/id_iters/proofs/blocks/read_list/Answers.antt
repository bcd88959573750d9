use Rattle.std.proofs.Common.{arith}
use Rattle.id_iters.proofs.AheadLaws.{finds, goes_on}
use Rattle.id_iters.proofs.blocks.read_list.Goals as goal

pub returns-in-Some-clause-least : goal.returns-in-Some-clause-least
returns-in-Some-clause-least g c =
    (finds (g.T.Lists.held c.args.lists.now).live (g.H.HitTest.wants c.args.test.now) c.args.list.now.entries c.args.from c.read.place.last c.later-start.result c.later-start.ensures c.read.invariant.none
    c.read_block.new.ahead c.next_live.new.self c.read_block.new.place.last (c.in-Ok-true.ensures.some c.in-Ok-true.field-0-test) c.next_live.ensures.rest c.in-Some.id c.in-Some.ensures.first).0

pub returns-in-Some-clause-ahead : goal.returns-in-Some-clause-ahead
returns-in-Some-clause-ahead g c =
    (finds (g.T.Lists.held c.args.lists.now).live (g.H.HitTest.wants c.args.test.now) c.args.list.now.entries c.args.from c.read.place.last c.later-start.result c.later-start.ensures c.read.invariant.none
    c.read_block.new.ahead c.next_live.new.self c.read_block.new.place.last (c.in-Ok-true.ensures.some c.in-Ok-true.field-0-test) c.next_live.ensures.rest c.in-Some.id c.in-Some.ensures.first).1

pub read-preserved : goal.read-preserved
read-preserved g c = record {
  sound = c.read_block.ensures.sound;
  none = goes_on (g.T.Lists.held c.args.lists.now).live (g.H.HitTest.wants c.args.test.now) c.args.list.now.entries c.args.from c.read.place.last c.later-start.result c.later-start.ensures c.read.invariant.none
      c.read_block.new.ahead c.next_live.new.self c.read_block.new.place.last (c.in-Ok-true.ensures.some c.in-Ok-true.field-0-test) c.next_live.ensures.rest c.in_default.ensures.first;
  counts = omega (arith, c.read.invariant.counts, c.read_block.ensures.counts);
}
