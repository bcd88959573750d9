use Rattle.std.proofs.Common.{arith, ◌<◌, ◌∙◌, length, sym, ap}
use Rattle.gc_splice.specs.declared.repair.BlockRepair.TheVariants.{Changed}
use Rattle.gc_splice.specs.Alive.{alive}
use Rattle.gc_splice.proofs.AliveLaws.{fewer_alive}
use Rattle.gc_splice.proofs.RepairLaws.{repair_same, repair_gone, repair_changed}
use Rattle.gc_splice.proofs.blocks.repair_block.Goals as goal

pub returns-then-left-len : goal.returns-then-left-len
returns-then-left-len g c =
    let live = g.L.Live.is c.args.live.now in
    let left = c.live_in-left.ensures.live ∙ ap (λ b. length (alive live b)) c.block.ensures in
    sym (repair_same live c.args.block.now (omega (arith, left, c.len.ensures, c.if-left-len.true)))

pub returns-then-left-eq0 : goal.returns-then-left-eq0
returns-then-left-eq0 g c =
    let live = g.L.Live.is c.args.live.now in
    let left = c.live_in-left.ensures.live ∙ ap (λ b. length (alive live b)) c.block.ensures in
    let fewer : length (alive live c.args.block.now) < length c.args.block.now = omega (arith, left, c.len.ensures, c.if-left-len.false, fewer_alive live c.args.block.now) in
    sym (repair_gone live c.args.block.now fewer (omega (arith, left, c.if-left-eq0.true)))

pub returns : goal.returns
returns g c =
    let live = g.L.Live.is c.args.live.now in
    let left = c.live_in-left.ensures.live ∙ ap (λ b. length (alive live b)) c.block.ensures in
    let fewer : length (alive live c.args.block.now) < length c.args.block.now = omega (arith, left, c.len.ensures, c.if-left-len.false, fewer_alive live c.args.block.now) in
    ap (λ b. Changed b) (c.in_ok-kept.ensures ∙ ap (λ b. alive live b) c.block-2.ensures)
    ∙ sym (repair_changed live c.args.block.now fewer (omega (arith, left, c.if-left-eq0.false)))
