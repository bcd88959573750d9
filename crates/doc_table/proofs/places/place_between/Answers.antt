use Rattle.std.proofs.Common.{arith, ◌+◌, ◌-◌, ◌/◌, ◌<◌, length}
use Rattle.doc_table.proofs.PlaceLaws.{below_before, above_behind}
use Rattle.doc_table.proofs.places.place_between.Goals as goal

pub halving-preserved-then-pages-middle : goal.halving-preserved-then-pages-middle
halving-preserved-then-pages-middle c =
    let middle = c.halving.low + (c.halving.high - c.halving.low) / 2 in
    let within : middle < length c.args.pages.now = omega (arith, c.halving-test.true, c.halving.invariant.high) in
    record {
      low = omega (arith, within);
      high = c.halving.invariant.high;
      below = below_before _ _ c.args.pages.now c.args.number middle c.requires.rises within c.if-pages-middle.true;
      above = c.halving.invariant.above;
    }

pub halving-preserved : goal.halving-preserved
halving-preserved c =
    let middle = c.halving.low + (c.halving.high - c.halving.low) / 2 in
    record {
      low = c.halving.invariant.low;
      high = omega (arith, c.halving-test.true, c.halving.invariant.high);
      below = c.halving.invariant.below;
      above = above_behind _ _ c.args.pages.now c.args.number middle c.requires.rises c.if-pages-middle.false;
    }
