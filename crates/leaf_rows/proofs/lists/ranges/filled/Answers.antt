use Rattle.std.proofs.Common.{◌+◌, arith}
use Rattle.leaf_rows.proofs.RangeLaws.{above-of, upto-added}
use Rattle.leaf_rows.proofs.lists.ranges.filled.Goals as goal

pub add-requires : goal.add-requires
add-requires c = above-of c.values.id (c.values.id + 1) c.values.ranges (omega arith) c.values.invariant.upto

pub values-preserved : goal.values-preserved
values-preserved c = record {
  id = omega (arith, c.values.invariant.id);
  upto = upto-added c.values.id (c.values.id + 1) _ _ c.values.ranges c.add.new.self (omega arith) c.values.invariant.upto c.in_ok-add.ensures.ok;
}
