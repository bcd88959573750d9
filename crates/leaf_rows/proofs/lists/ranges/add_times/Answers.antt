use Rattle.leaf_rows.proofs.RangeLaws.{above-of, upto-added}
use Rattle.leaf_rows.proofs.lists.ranges.add_times.Goals as goal

pub add-requires : goal.add-requires
add-requires c = above-of c.times.id _ c.times.ranges c.in_ok-id.ensures c.times.invariant

pub times-preserved : goal.times-preserved
times-preserved c = upto-added c.times.id _ _ _ c.times.ranges c.add.new.self c.in_ok-id.ensures c.times.invariant c.in_ok-add.ensures.ok
