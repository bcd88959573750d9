use mir.Syntax.{w64}
use mir.Val.{of_z, to_z}
use Rattle.leaf_rows.specs.Splicing.{live_but}
use Rattle.leaf_rows.proofs.RangeLaws.{upto-collected}
use Rattle.leaf_rows.proofs.lists.ranges.collect.Goals as goal

pub returns : goal.returns
returns c =
    upto-collected c.args.last (live_but c.args.dead.now.ids.now) (to_z w64 (of_z w64 c.args.low)) c.args.markers.now c.collect.new.markers c.args.ranges.now c.collect.new.self
    c.requires c.collect.ensures.gone c.in_ok-collect.ensures.there
