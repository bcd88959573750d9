use Rattle.std.proofs.Common.{rules, ◌≡◌, true}
use Rattle.id_iters.proofs.SeekLaws.{ahead_rested}
use Rattle.id_iters.proofs.iter.Ahead.rest.Goals as goal

pub returns-in-Some-clause-ready : goal.returns-in-Some-clause-ready
returns-in-Some-clause-ready g c =
    let held = g.T.Lists.held c.args.lists.now in
    let asked : c.args.self.now.asked ≡ true = search rules in
    λ from r. ahead_rested held c.args.self.now c.rest.new.self c.in-Some.id from asked c.in-Some.is c.rest.ensures.same c.rest.ensures.ready r
