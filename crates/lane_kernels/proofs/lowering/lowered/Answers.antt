use lib.Bits.{bit_or}
use Rattle.std.specs.Char.{to_ascii_lowercase}
use Rattle.lane_kernels.proofs.BytesLaws.{itself, all, joined, chosen, minus, below}
use Rattle.lane_kernels.proofs.lowering.lowered.Goals as goal

pub returns : goal.returns
returns c =
    let v = c.args.bytes in
    let long = c.fits-bytes.0 in
    chosen _ _ to_ascii_lowercase tt v c.fits-bytes.1
    (joined below _ _ v (joined minus _ _ v (itself v) (all v 16 65 long)) (all v 16 26 long))
    (joined bit_or _ _ v (itself v) (all v 16 32 long))
