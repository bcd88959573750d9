use Rattle.std.proofs.Common.{◌≡◌, ◌<◌, ◌/◌, ℤ, List, get_or, length, pos, int_le, count_by, true, false, ◌∙◌, ap, sym, rules, arith}
use Rattle.std.specs.List.Sorted.{IsSorted, IsPermutation}
use Rattle.std.specs.Ordering.{int_cmp}
use Rattle.std.proofs.lemmas.Int.{to_z-of_z}
use Rattle.std.proofs.lemmas.List.Sorted.{length_permutation}
use mir.Syntax.{w64}
use mir.Val.{SFits}
use Rattle.numeric_ranges.specs.Values.{median, nth_value}
use Rattle.numeric_ranges.proofs.ValueLaws.{cast_lt, nth_is, cut_median, cut_second}
use Rattle.numeric_ranges.proofs.cut.middle.Goals as goal

median_is : (all xs : List ℤ) → IsPermutation all xs → IsSorted int_cmp xs → 0 < length xs → median all ≡ get_or xs (length xs / 2) (pos 0)
median_is all xs moved sorted some =
    ap (λ n. nth_value (n / 2) all) (sym (length_permutation all xs moved)) ∙ nth_is (length xs / 2) all xs (pos 0) moved sorted (omega arith)

pub returns-then-smallest-median-clause-value : goal.returns-then-smallest-median-clause-value
returns-then-smallest-median-clause-value c = λ all moved.
    let xs = c.args.rising.now in
    let least = get_or xs 0 (pos 0) in
    let middle = get_or xs (length xs / 2) (pos 0) in
    let f : SFits w64 least = search rules in
    let g : SFits w64 middle = search rules in
    to_z-of_z w64 middle g ∙ sym (cut_median all least middle (nth_is 0 all xs (pos 0) moved c.requires.sorted c.requires.some)
    (median_is all xs moved c.requires.sorted c.requires.some) (cast_lt least middle true f g c.if-smallest-median.true))

pub returns-clause-value : goal.returns-clause-value
returns-clause-value c = λ all moved.
    let xs = c.args.rising.now in
    let least = get_or xs 0 (pos 0) in
    let middle = get_or xs (length xs / 2) (pos 0) in
    let f : SFits w64 least = search rules in
    let g : SFits w64 middle = search rules in
    let h : SFits w64 c.first_above.result = search rules in
    to_z-of_z w64 c.first_above.result h ∙ sym (cut_second all least middle c.first_above.result (nth_is 0 all xs (pos 0) moved c.requires.sorted c.requires.some)
    (median_is all xs moved c.requires.sorted c.requires.some) (cast_lt least middle false f g c.if-smallest-median.false)
    (sym (c.first_above.ensures.value all moved ∙ ap (λ (s : ℤ). nth_value (count_by (λ w. int_le w s) all) all) (to_z-of_z w64 least f))))
