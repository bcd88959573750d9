use Rattle.std.proofs.Common.{rules, arith, ◌<◌, ◌+◌, ℕ}
use Rattle.id_iters.specs.Ready.{Ready}
use Rattle.id_iters.specs.declared.iter.Iter.TheVariants as variant
use Rattle.id_iters.proofs.PlaceLaws.{leaf_waits}
use Rattle.id_iters.proofs.SeekLaws.{leaf_ready}
use Rattle.id_iters.proofs.iter.Iter.rest.Goals as goal

pub returns-in-Leaf-clause-ready : goal.returns-in-Leaf-clause-ready
returns-in-Leaf-clause-ready g c =
    let held = g.T.Lists.held c.args.lists.now in
    let h : (from : ℕ) → c.args.id < from → Ready held c.args.self.now from → Ready held (variant.Leaf c.rest.new.self) from =
    λ from low r. leaf_ready held c.rest.new.self from (leaf_waits held c.rest.new.self (c.args.id + 1) from c.rest.ensures.ready (omega (arith, low))) in
    search (rules, h)
