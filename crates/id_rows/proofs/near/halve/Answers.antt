use Rattle.std.proofs.Common.{arith, ◌<◌, ◌+◌, ◌-◌, ◌/◌, length}
use Rattle.id_rows.proofs.PlaceLaws.{above_behind, below_before}
use Rattle.id_rows.proofs.near.halve.Goals as goal

pub halving-preserved-then-id_at-id : goal.halving-preserved-then-id_at-id
halving-preserved-then-id_at-id g c =
    let rows = c.args.rows.now in
    let middle = c.halving.low + (c.halving.high - c.halving.low) / 2 in
    let within : middle < length rows = omega (arith, c.halving-test.true, c.halving.invariant.within) in
    record {
      order = omega (arith, c.halving-test.true);
      within = c.halving.invariant.within;
      below = λ k before. below_before g.T.HasId.id_of rows c.args.id middle c.requires.rises within (omega (arith, c.id_at.ensures, c.if-id_at-id.true)) k (omega (arith, before));
      above = c.halving.invariant.above;
    }

pub halving-preserved : goal.halving-preserved
halving-preserved g c =
    let rows = c.args.rows.now in
    let middle = c.halving.low + (c.halving.high - c.halving.low) / 2 in
    record {
      order = omega (arith, c.halving-test.true);
      within = omega (arith, c.halving-test.true, c.halving.invariant.within);
      below = c.halving.invariant.below;
      above = above_behind g.T.HasId.id_of rows c.args.id middle c.requires.rises (omega (arith, c.id_at.ensures, c.if-id_at-id.false));
    }

pub returns : goal.returns
returns g c = record {
  within = omega (arith, c.halving.invariant.order, c.halving.invariant.within);
  below = c.halving.invariant.below;
  above = λ k behind within. c.halving.invariant.above k (omega (arith, behind, c.halving-test.false)) within;
}
