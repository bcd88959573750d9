use Rattle.std.proofs.Common.{ℤ, ◌&&◌, int_le, w64, of_z, to_z, arith}
use Rattle.lane_kernels.proofs.RangeLaws.{four_more}
use Rattle.lane_kernels.proofs.ranging.in_range.Goals as goal

pub lanes-preserved : goal.lanes-preserved
lanes-preserved c =
    let low : ℤ = to_z w64 (of_z w64 c.args.low) in
    let high : ℤ = to_z w64 (of_z w64 c.args.high) in
    let inv = c.lanes.invariant in (
      four_more (λ (value : ℤ). int_le low value && int_le value high) c.args.values.now c.lanes.out _ c.lanes.i inv.0 c.flag_four.ensures.told,
      omega arith,
      omega arith,
    )
