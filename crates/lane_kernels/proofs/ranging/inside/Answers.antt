use Rattle.lane_kernels.proofs.RangeLaws.{inside_is}
use Rattle.lane_kernels.proofs.ranging.inside.Goals as goal

pub returns : goal.returns
returns c = inside_is c.args.low c.args.high c.ranges.low c.ranges.high c.args.values c.requires.four c.requires.fits
