use Rattle.std.proofs.Common.{arith, ◌∙◌, length, ap}
use Rattle.gc_splice.specs.Alive.{alive}
use Rattle.gc_splice.proofs.AliveLaws.{all_counted, not_all, fewer_alive}
use Rattle.gc_splice.proofs.RepairLaws.{blocks_more, blocks_not}
use Rattle.gc_splice.proofs.blocks.first_dead.Goals as goal

pub returns-then-live_in-len-clause-dead : goal.returns-then-live_in-len-clause-dead
returns-then-live_in-len-clause-dead g c = λ inside.
    let live = g.L.Live.is c.args.live.now in
    let b = c.index-blocks-i.result in
    let n = c.live_in.ensures.live ∙ ap (λ x. length (alive live x)) c.block.ensures in
    blocks_not live c.args.blocks.now c.each.i b inside c.index-blocks-i.is (not_all live b (omega (arith, n, c.len.ensures, c.if-live_in-len.true)))

pub each-preserved : goal.each-preserved
each-preserved g c =
    let live = g.L.Live.is c.args.live.now in
    let b = c.index-blocks-i.result in
    let n = c.live_in.ensures.live ∙ ap (λ x. length (alive live x)) c.block.ensures in
    blocks_more live c.args.blocks.now c.each.i b c.each-test.true c.index-blocks-i.is
    (all_counted live b (omega (arith, n, c.len.ensures, c.if-live_in-len.false, fewer_alive live b))) c.each.invariant
