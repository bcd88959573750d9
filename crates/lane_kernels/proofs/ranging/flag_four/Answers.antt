use Rattle.std.proofs.Common.{◌≡◌, ℤ, ◌&&◌, int_le, map, w64, of_z, to_z, ◌+◌, ◌-◌, ◌∙◌, ap, length, arith}
use Rattle.std.proofs.lemmas.List.{length-map}
use Rattle.std.proofs.lemmas.Simd.{length-chunk}
use Rattle.std.proofs.lemmas.Int.{to_z-of_z}
use lib.Lanes.{chunk, mask_l}
use Rattle.lane_kernels.proofs.RangeLaws.{four_put, passed_on}
use Rattle.lane_kernels.proofs.ranging.flag_four.Goals as goal

pub returns-clause-told : goal.returns-clause-told
returns-clause-told c =
    let i = c.args.i in
    let values = c.args.values.now in
    let low : ℤ = to_z w64 (of_z w64 c.args.low) in
    let high : ℤ = to_z w64 (of_z w64 c.args.high) in
    let low_is : low ≡ c.args.low = to_z-of_z w64 c.args.low c.ranges.low in
    let high_is : high ≡ c.args.high = to_z-of_z w64 c.args.high c.ranges.high in
    let is_inside = λ (value : ℤ). int_le c.args.low value && int_le value c.args.high in
    let flags = map is_inside (chunk i 4 values) in
    let wide : length flags ≡ 4 = length-map (chunk i 4 values) is_inside ∙ length-chunk i 4 values (omega arith) in
    let told : c.inside-found.result ≡ mask_l (map (λ (value : ℤ). int_le low value && int_le value high) (map (to_z w64) (map (of_z w64) c.four_from.result))) = c.inside-found.ensures in
    let read = passed_on c.four_from.result c.four_from.ensures.fits ∙ c.four_from.ensures.same in
    let same : c.inside-found.result ≡ mask_l flags
    = told
    ∙ ap (λ (l : ℤ). mask_l (map (λ (value : ℤ). int_le l value && int_le value high) (map (to_z w64) (map (of_z w64) c.four_from.result)))) low_is
    ∙ ap (λ (h : ℤ). mask_l (map (λ (value : ℤ). int_le c.args.low value && int_le value h) (map (to_z w64) (map (of_z w64) c.four_from.result)))) high_is
    ∙ ap (λ vs. mask_l (map is_inside vs)) read in
    let here = c.copy_from_slice.ensures.after ∙ c.flags_of.ensures flags wide same in
    four_put c.args.out.now c.copy_from_slice.new.self flags i (i + 4 - i) (omega arith) wide here
