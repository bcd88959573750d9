use Rattle.lane_kernels.proofs.RangeLaws.{four_flags}
use Rattle.lane_kernels.proofs.ranging.flags_of.Goals as goal

pub returns : goal.returns
returns c = λ flags four is. four_flags flags four c.args.bits is
