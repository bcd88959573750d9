use Rattle.std.proofs.Common.{arith}
use lib.Bits.{bit_and, bit_or}
use Rattle.ft_base.specs.Separators.{is_separator}
use Rattle.lane_kernels.proofs.BytesLaws.{masked, itself, all, joined, minus, at_most, below, other}
use Rattle.lane_kernels.proofs.separating.separators.Goals as goal

pub returns : goal.returns
returns c =
    let v = c.args.bytes in
    let long = c.fits-bytes.0 in
    masked _ is_separator v _ (omega arith) c.fits-bytes.1 (joined bit_and _ _ v
    (joined bit_and _ _ v
    (joined bit_and _ _ v
    (joined at_most _ _ v (all v 16 26 long) (joined minus _ _ v (joined bit_or _ _ v (itself v) (all v 16 32 long)) (all v 16 97 long)))
    (joined at_most _ _ v (all v 16 10 long) (joined minus _ _ v (itself v) (all v 16 48 long))))
    (joined other _ _ v (itself v) (all v 16 95 long)))
    (joined below _ _ v (itself v) (all v 16 128 long))) tt
