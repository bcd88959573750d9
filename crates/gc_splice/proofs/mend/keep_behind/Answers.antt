use Rattle.std.proofs.Common.{arith, ◌<◌, ◌∙◌, length}
use Rattle.gc_splice.proofs.MendLaws.{write_behind}
use Rattle.gc_splice.proofs.mend.keep_behind.Goals as goal

pub each-preserved : goal.each-preserved
each-preserved g c =
    let e = c.keep_block.ensures in
    let here : c.each.i < length c.each.blocks.items = omega (arith, c.each-test.true, c.len-i-end.ensures, c.each.invariant.1) in (
      omega (arith, c.each.invariant.0),
      e.len ∙ c.each.invariant.1,
      λ start taken n w. write_behind start taken c.each.i c.each.kept c.each.blocks.items (c.each.invariant.2 start taken n w) here c.keep_block.new.blocks.items
          (omega (arith, n, c.each.auto.i)) e.first e.behind e.len,
    )
