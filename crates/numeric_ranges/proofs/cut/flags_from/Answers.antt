use Rattle.std.proofs.Common.{◌≡◌, ℤ, pos, ◌&&◌, int_le, map, length, w64, of_z, to_z, ap, ◌∙◌, arith}
use Rattle.std.proofs.lemmas.Int.{to_z-of_z}
use Rattle.numeric_ranges.proofs.FilledLaws.{all_written, none_beyond}
use Rattle.numeric_ranges.proofs.cut.flags_from.Goals as goal

pub returns : goal.returns
returns c =
    let out = c.in_range.new.out in
    let old = c.in_ok-flags.flags.items in
    let all = c.in_ok-values.values.items in
    let cut : ℤ = to_z w64 (of_z w64 c.args.cut) in
    let told : out ≡ map (λ (value : ℤ). int_le cut value && int_le value (pos 9223372036854775807)) c.as_slice.result.now = c.in_range.ensures.flags in
    let long : length out ≡ length old = omega (arith, ap length c.as_mut_slice.ensures.value) in
    all_written out old c.in_ok-flags.flags.len c.in_ok-flags.flags.ok.0 long
    ∙ told
    ∙ ap (λ (low : ℤ). map (λ (value : ℤ). int_le low value && int_le value (pos 9223372036854775807)) c.as_slice.result.now) (to_z-of_z w64 c.args.cut c.ranges.cut)
    ∙ ap (map (λ (value : ℤ). int_le c.args.cut value && int_le value (pos 9223372036854775807))) c.as_slice.ensures.value
    ∙ none_beyond c.args.cut all c.in_ok-values.ensures.numbers
    ∙ ap (map (λ (value : ℤ). int_le c.args.cut value)) c.in_ok-values.ensures.values
