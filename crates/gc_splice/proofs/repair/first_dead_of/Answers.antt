use Rattle.std.proofs.Common.{arith, ◌∙◌, length, take, sym, ap}
use Rattle.inverted_list.specs.Blocks.{joined}
use Rattle.gc_splice.specs.Alive.{all_alive}
use Rattle.gc_splice.proofs.AliveLaws.{all_counted, not_all}
use Rattle.gc_splice.proofs.RepairLaws.{clean_picture, dead_blocks, dead_tail}
use Rattle.gc_splice.proofs.repair.first_dead_of.Goals as goal
use Rattle.gc_splice.proofs.repair.first_dead_of.Goals.{else-front-blocks-via-then-front-blocks+else-live_in-len, else-front-blocks-via-else-front-blocks}

pub returns-then-live_in-len-clause-dead : goal.returns-then-live_in-len-clause-dead
returns-then-live_in-len-clause-dead g c =
    let live = g.L.Live.is c.args.live.now in
    let p = c.args.picture.now in
    let e = c.first_dead-front.ensures in
    let is = c.as_slice-blocks.ensures in
    clean_picture live p c.first_dead-front.result (omega (arith, c.if-front-blocks.true, ap length is)) (ap (λ bs. all_alive live (joined (take c.first_dead-front.result bs))) (sym is) ∙ e.before)
    (all_counted live p.tail (omega (arith, c.live_in.ensures.live, c.len.ensures.len, c.if-live_in-len.true)))

pub returns-clause-dead : goal.returns-clause-dead
returns-clause-dead g c =
    let live = g.L.Live.is c.args.live.now in
    let p = c.args.picture.now in
    let e = c.first_dead-front.ensures in
    let is = c.as_slice-blocks.ensures in
    elim c.else-front-blocks.branch [
      | else-front-blocks-via-then-front-blocks+else-live_in-len w ↦ dead_tail live p (not_all live p.tail (omega (arith, w.live_in.ensures.live, w.live_in.ensures.few, w.len.ensures.len, w.if-live_in-len.false)))
      | else-front-blocks-via-else-front-blocks w ↦ dead_blocks live p (ap (λ bs. all_alive live (joined bs)) (sym is) ∙ e.dead (omega (arith, w.if-front-blocks.false, e.within)))
    ]
