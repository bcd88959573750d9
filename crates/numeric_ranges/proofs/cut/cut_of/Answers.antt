use Rattle.std.proofs.Common.{◌≡◌, ℤ, List, sym, subst, rules}
use Rattle.std.specs.List.Sorted.{IsSorted, IsPermutation}
use Rattle.std.specs.Ordering.{int_cmp}
use Rattle.std.proofs.lemmas.Int.{to_z-of_z}
use mir.Syntax.{w64}
use mir.Val.{SFits}
use Rattle.numeric_ranges.specs.Rows.{IsInside}
use Rattle.numeric_ranges.specs.Values.{Entries, values}
use Rattle.numeric_ranges.proofs.ValueLaws.{mixed_rising, inside_rising, some_mixed}
use Rattle.numeric_ranges.proofs.cut.cut_of.Goals as goal

moved_along : (es : Entries) (old new xs : List ℤ) → old ≡ values es → xs ≡ new → IsPermutation old new → IsPermutation (values es) xs
moved_along es old new xs here there moved = subst (λ ys. IsPermutation ys xs) here (subst (λ ys. IsPermutation old ys) (sym there) moved)

pub middle-requires-clause-mixed : goal.middle-requires-clause-mixed
middle-requires-clause-mixed c =
    mixed_rising c.args.entries.now c.as_slice.result.now
    (moved_along c.args.entries.now _ _ c.as_slice.result.now c.in_ok-rising.ensures.values c.as_slice.ensures.value c.sort_unstable.ensures.permutation)
    (subst (IsSorted int_cmp) (sym c.as_slice.ensures.value) c.sort_unstable.ensures.sorted) c.requires

pub returns-clause-fits : goal.returns-clause-fits
returns-clause-fits c =
    let es = c.args.entries.now in
    let xs = c.as_slice.result.now in
    let moved = moved_along es _ _ xs c.in_ok-rising.ensures.values c.as_slice.ensures.value c.sort_unstable.ensures.permutation in
    let f : SFits w64 c.middle.result = search rules in
    subst (λ (cut : ℤ). IsInside cut (values es)) (sym (to_z-of_z w64 c.middle.result f))
    (inside_rising es xs c.middle.result moved (some_mixed es xs moved c.requires) c.middle.ensures.member c.middle.ensures.above)
