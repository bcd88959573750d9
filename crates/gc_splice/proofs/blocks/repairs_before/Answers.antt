use Rattle.std.proofs.Common.{◌∙◌, ◌++◌, ◌∷◌, [], ap}
use Rattle.gc_splice.specs.declared.repair.BlockRepair.TheVariants.{Same}
use Rattle.gc_splice.proofs.RepairLaws.{same_next}
use Rattle.gc_splice.proofs.blocks.repairs_before.Goals as goal

pub each-preserved : goal.each-preserved
each-preserved g c =
    c.in_ok-push.ensures.items ∙ ap (λ rs. rs ++ Same ∷ []) c.each.invariant
    ∙ same_next (g.L.Live.is c.args.live.now) c.args.blocks.now c.args.front c.each._i c.each-test.true c.requires.within c.requires.live
