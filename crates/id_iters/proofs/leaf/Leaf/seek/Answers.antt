use Rattle.id_iters.specs.Leaves.{leaf_has}
use Rattle.id_iters.proofs.ReadAheadLaws.{found, used}
use Rattle.id_iters.proofs.leaf.Leaf.seek.Goals as goal

pub returns-in-Some-clause-least : goal.returns-in-Some-clause-least
returns-in-Some-clause-least g c =
    let held = g.T.Lists.held c.args.lists.now in
    (found held.live (leaf_has held c.args.self.now) c.args.self.now.place.last c.args.from c.args.self.now.ahead c.next_live.new.self c.in-Some.id c.requires.ready.ahead c.next_live.ensures.rest
    c.in-Some.ensures.first).0

pub returns-in-Some-clause-ready : goal.returns-in-Some-clause-ready
returns-in-Some-clause-ready g c =
    let held = g.T.Lists.held c.args.lists.now in
    record {
      sound = c.requires.ready.sound;
      ahead = (found held.live (leaf_has held c.args.self.now) c.args.self.now.place.last c.args.from c.args.self.now.ahead c.next_live.new.self c.in-Some.id c.requires.ready.ahead c.next_live.ensures.rest
          c.in-Some.ensures.first).1;
    }

pub read_on-requires-clause-used : goal.read_on-requires-clause-used
read_on-requires-clause-used g c =
    let held = g.T.Lists.held c.args.lists.now in
    used held.live (leaf_has held c.args.self.now) c.args.self.now.place.last c.args.from c.args.self.now.ahead c.next_live.new.self c.requires.ready.ahead c.next_live.ensures.rest c.in_default.ensures.first
