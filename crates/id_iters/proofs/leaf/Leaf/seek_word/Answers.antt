use Rattle.id_iters.specs.Leaves.{has_word}
use Rattle.id_iters.proofs.LeastLaws.{and_second}
use Rattle.id_iters.proofs.ReadAheadLaws.{found, used}
use Rattle.id_iters.proofs.leaf.Leaf.seek_word.Goals as goal

pub returns-in-Some-clause-least : goal.returns-in-Some-clause-least
returns-in-Some-clause-least g c =
    let held = g.T.Lists.held c.args.lists.now in
    (found held.live (has_word held c.args.self.now.list) c.args.self.now.place.last c.args.from c.args.self.now.ahead c.next_live.new.self c.in-Some.id c.requires.ready.ahead c.next_live.ensures.rest
    c.in-Some.ensures.first).0

pub returns-in-Some-clause-at : goal.returns-in-Some-clause-at
returns-in-Some-clause-at g c =
    let held = g.T.Lists.held c.args.lists.now in
    let both = found held.live (has_word held c.args.self.now.list) c.args.self.now.place.last c.args.from c.args.self.now.ahead c.next_live.new.self c.in-Some.id c.requires.ready.ahead c.next_live.ensures.rest
    c.in-Some.ensures.first in
    record {
      entry = and_second (held.live c.in-Some.id) (has_word held c.args.self.now.list c.in-Some.id) both.0.passes;
      ready = record { sound = c.requires.ready.sound; ahead = both.1 };
    }

pub read_word-requires-clause-used : goal.read_word-requires-clause-used
read_word-requires-clause-used g c =
    let held = g.T.Lists.held c.args.lists.now in
    used held.live (has_word held c.args.self.now.list) c.args.self.now.place.last c.args.from c.args.self.now.ahead c.next_live.new.self c.requires.ready.ahead c.next_live.ensures.rest c.in_default.ensures.first
